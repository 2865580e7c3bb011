-- Maps with moves that take no time (02, C-15): turntable stops, cycles of such moves, and a chain; and what the
-- searches find there.
use Rattle.std.specs.Prelude.{List, [], ◌∷◌, ◌++◌, ℕ, replicate}
use Rattle.common.specs.Numbers.{source_mark}
use Rattle.course.specs.Cases.{paged}
use Rattle.course.specs.Moves.{Found}

-- "A turntable stop has two station numbers and nothing moves between them": N 2, 0-1/0, 1-0/0, on one page and on two.
abbrev pub turntable : List ℕ
turntable = 2 ∷ 0 ∷ 1 ∷ 0 ∷ 0 ∷ 0 ∷ paged (1 ∷ 0 ∷ 0 ∷ 2 ∷ 1 ∷ 0 ∷ 0 ∷ 0 ∷ 1 ∷ 1 ∷ 0 ∷ 2 ∷ 0 ∷ 0 ∷ 0 ∷ 0 ∷ [])

abbrev pub on_two_pages : List ℕ
on_two_pages =
    2 ∷ 0 ∷ 2 ∷ 0 ∷ 0 ∷ 1 ∷
    (paged (1 ∷ 0 ∷ 0 ∷ 2 ∷ 1 ∷ 0 ∷ 0 ∷ 0 ∷ []) ++ paged (1 ∷ 1 ∷ 0 ∷ 2 ∷ 0 ∷ 0 ∷ 0 ∷ 0 ∷ []))

-- N 3, one page: a turntable of stations 0 and 1, and 2-0/5, 2-1/5.
abbrev pub behind_two : List ℕ
behind_two =
    3 ∷ 0 ∷ 1 ∷ 0 ∷ 0 ∷ 0 ∷ 0 ∷
    paged
    (1 ∷ 0 ∷ 0 ∷ 2 ∷ 1 ∷ 0 ∷ 0 ∷ 0 ∷
    1 ∷ 1 ∷ 0 ∷ 2 ∷ 0 ∷ 0 ∷ 0 ∷ 0 ∷
    1 ∷ 2 ∷ 0 ∷ 2 ∷ 0 ∷ 0 ∷ 5 ∷ 0 ∷ 2 ∷ 1 ∷ 0 ∷ 5 ∷ 0 ∷ [])

-- N 4, stations 0 and 3 on page 0, 1 on page 1, 2 on page 2: 0-1/0, 0-3/5, 1-2/0, 2-0/0, and 2-3/0 for strips of up to
-- 9,000 decimetres (28 23 in bytes). A cycle through three pages, and a way out of it.
abbrev pub through_three_pages : List ℕ
through_three_pages =
    4 ∷ 0 ∷ 3 ∷ 0 ∷ 0 ∷ 1 ∷ 2 ∷ 0 ∷
    (paged (1 ∷ 0 ∷ 0 ∷ 2 ∷ 1 ∷ 0 ∷ 0 ∷ 0 ∷ 2 ∷ 3 ∷ 0 ∷ 5 ∷ 0 ∷ 1 ∷ 3 ∷ 0 ∷ []) ++
    (paged (1 ∷ 1 ∷ 0 ∷ 2 ∷ 2 ∷ 0 ∷ 0 ∷ 0 ∷ []) ++
    paged (1 ∷ 2 ∷ 0 ∷ 2 ∷ 0 ∷ 0 ∷ 0 ∷ 0 ∷ 3 ∷ 3 ∷ 0 ∷ 0 ∷ 0 ∷ 0x28 ∷ 0x23 ∷ [])))

-- N 6, three stations a page: 0-1/0, 1-2/0, 2-3/0, 3-4/0, 4-5/0.
abbrev pub chain_at_zero : List ℕ
chain_at_zero =
    6 ∷ 0 ∷ 2 ∷ 0 ∷ 0 ∷ 0 ∷ 0 ∷ 1 ∷ 1 ∷ 1 ∷
    (paged
    (1 ∷ 0 ∷ 0 ∷ 2 ∷ 1 ∷ 0 ∷ 0 ∷ 0 ∷ 1 ∷ 1 ∷ 0 ∷ 2 ∷ 2 ∷ 0 ∷ 0 ∷ 0 ∷ 1 ∷ 2 ∷ 0 ∷ 2 ∷ 3 ∷ 0 ∷ 0 ∷ 0 ∷ []) ++
    paged (1 ∷ 3 ∷ 0 ∷ 2 ∷ 4 ∷ 0 ∷ 0 ∷ 0 ∷ 1 ∷ 4 ∷ 0 ∷ 2 ∷ 5 ∷ 0 ∷ 0 ∷ 0 ∷ 1 ∷ 5 ∷ 0 ∷ []))

-- The turntable from either station: the source keeps 65,534, though a move of no time leads back to it.
abbrev pub of_turntable : Found
of_turntable = record {
  times = 0 ∷ 0 ∷ [];
  moves = 0 ∷ 1 ∷ [];
  preds = source_mark ∷ 0 ∷ [];
  ours = 0 ∷ [];
  dijkstras = 0 ∷ 0 ∷ [];
}

abbrev pub from_the_other : Found
from_the_other = record {
  times = 0 ∷ 0 ∷ [];
  moves = 1 ∷ 0 ∷ [];
  preds = 1 ∷ source_mark ∷ [];
  ours = 0 ∷ [];
  dijkstras = 0 ∷ 0 ∷ [];
}

abbrev pub of_two_pages : Found
of_two_pages = record {
  times = 0 ∷ 0 ∷ [];
  moves = 0 ∷ 1 ∷ [];
  preds = source_mark ∷ 0 ∷ [];
  ours = 0 ∷ 1 ∷ [];
  dijkstras = 0 ∷ 1 ∷ [];
}

-- From station 2 both have predecessor 2. Each gives the other its time, but not its moves: by time alone they would be
-- each other's predecessor, as each is below 2, and no chain would end at the source.
abbrev pub of_behind_two : Found
of_behind_two = record {
  times = 5 ∷ 5 ∷ 0 ∷ [];
  moves = 1 ∷ 1 ∷ 0 ∷ [];
  preds = 2 ∷ 2 ∷ source_mark ∷ [];
  ours = 0 ∷ [];
  dijkstras = 0 ∷ 0 ∷ 0 ∷ [];
}

-- Page 0 is fetched again for station 3, which has time 5 when it has been worked through and 0 in the end; not for the
-- source, to which the cycle leads back.
abbrev pub of_three_pages : Found
of_three_pages = record {
  times = 0 ∷ 0 ∷ 0 ∷ 0 ∷ [];
  moves = 0 ∷ 1 ∷ 2 ∷ 3 ∷ [];
  preds = source_mark ∷ 0 ∷ 1 ∷ 2 ∷ [];
  ours = 0 ∷ 1 ∷ 2 ∷ 0 ∷ [];
  dijkstras = 0 ∷ 1 ∷ 2 ∷ 0 ∷ [];
}

abbrev pub of_chain : Found
of_chain = record {
  times = replicate 6 0;
  moves = 0 ∷ 1 ∷ 2 ∷ 3 ∷ 4 ∷ 5 ∷ [];
  preds = source_mark ∷ 0 ∷ 1 ∷ 2 ∷ 3 ∷ 4 ∷ [];
  ours = 0 ∷ 1 ∷ [];
  dijkstras = 0 ∷ 0 ∷ 0 ∷ 1 ∷ 1 ∷ 1 ∷ [];
}
