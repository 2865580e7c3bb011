-- Maps on which fewer moves decide (02, C-14), and what the searches from station 0 find there; beside them M7 and C6.
use Rattle.std.specs.Prelude.{List, [], ◌∷◌, ◌++◌, ℕ}
use Rattle.common.specs.Numbers.{source_mark}
use Rattle.image.specs.Image.{Outcome, refused, on_page}
use Rattle.reply.specs.Reply.{list_of}
use Rattle.course.specs.Cases.{paged, ours, dijkstras}

-- N 4, one page: 0-2/1, 1-3/2, 2-1/1, 2-3/3. Two ways take time 4 to station 3: 0 2 1 3, and 0 2 3, which has fewer
-- moves.
abbrev pub short_cut : List ℕ
short_cut =
    4 ∷ 0 ∷ 1 ∷ 0 ∷ 0 ∷ 0 ∷ 0 ∷ 0 ∷
    paged
    (1 ∷ 0 ∷ 0 ∷ 2 ∷ 2 ∷ 0 ∷ 1 ∷ 0 ∷
    1 ∷ 1 ∷ 0 ∷ 2 ∷ 3 ∷ 0 ∷ 2 ∷ 0 ∷
    1 ∷ 2 ∷ 0 ∷ 2 ∷ 1 ∷ 0 ∷ 1 ∷ 0 ∷ 2 ∷ 3 ∷ 0 ∷ 3 ∷ 0 ∷
    1 ∷ 3 ∷ 0 ∷ [])

-- N 5, stations 0, 1, 2 and 4 on page 0, 3 on page 1: 0-1/1, 0-3/1, 1-4/1, 3-2/3, 4-2/2. Station 2 has time 4 when page
-- 0 has been worked through, by 0 1 4 2, and then fewer moves, by 0 3 2: it is no longer fresh.
abbrev pub over_the_other_page : List ℕ
over_the_other_page =
    5 ∷ 0 ∷ 2 ∷ 0 ∷ 0 ∷ 0 ∷ 0 ∷ 1 ∷ 0 ∷
    (paged
    (1 ∷ 0 ∷ 0 ∷ 2 ∷ 1 ∷ 0 ∷ 1 ∷ 0 ∷ 2 ∷ 3 ∷ 0 ∷ 1 ∷ 0 ∷
    1 ∷ 1 ∷ 0 ∷ 2 ∷ 4 ∷ 0 ∷ 1 ∷ 0 ∷
    1 ∷ 2 ∷ 0 ∷
    1 ∷ 4 ∷ 0 ∷ 2 ∷ 2 ∷ 0 ∷ 2 ∷ 0 ∷ []) ++
    paged (1 ∷ 3 ∷ 0 ∷ 2 ∷ 2 ∷ 0 ∷ 3 ∷ 0 ∷ []))

-- N 4, stations 0 and 2 on page 0, 1 on page 1, 3 on page 2; 0-2/1, 0-3/2, 2-1/1; pages 1 and 2 begin 07. Stations 1
-- and 3 both have time 2, and 3 has fewer moves.
abbrev pub two_bad : List ℕ
two_bad =
    4 ∷ 0 ∷ 3 ∷ 0 ∷ 0 ∷ 1 ∷ 0 ∷ 2 ∷
    (paged
    (1 ∷ 0 ∷ 0 ∷ 2 ∷ 2 ∷ 0 ∷ 1 ∷ 0 ∷ 2 ∷ 3 ∷ 0 ∷ 2 ∷ 0 ∷
    1 ∷ 2 ∷ 0 ∷ 2 ∷ 1 ∷ 0 ∷ 1 ∷ 0 ∷ []) ++
    (paged (7 ∷ []) ++ paged (7 ∷ [])))

-- What is found from a source: times, moves and predecessors, our list and Dijkstra's.
pub record Found : Type 0 where
  pub times : List ℕ
  pub moves : List ℕ
  pub preds : List ℕ
  pub ours : List ℕ
  pub dijkstras : List ℕ

abbrev pub found_from : List ℕ → ℕ → Found
found_from image source =
    let h = ours image source in
    record {
      times = h.tables.times;
      moves = h.tables.moves;
      preds = h.tables.preds;
      ours = list_of h;
      dijkstras = list_of (dijkstras image source);
    }

abbrev pub found : List ℕ → Found
found image = found_from image 0

-- Station 3 has predecessor 2 and not 1, though 1 is lower and gives the time: it does not give the moves.
abbrev pub by_fewer_moves : Found
by_fewer_moves = record {
  times = 0 ∷ 2 ∷ 1 ∷ 4 ∷ [];
  moves = 0 ∷ 2 ∷ 1 ∷ 2 ∷ [];
  preds = source_mark ∷ 2 ∷ 0 ∷ 2 ∷ [];
  ours = 0 ∷ [];
  dijkstras = 0 ∷ 0 ∷ 0 ∷ 0 ∷ [];
}

-- Page 0 is fetched again for station 2; by time alone our list would be 0 1.
abbrev pub fetched_again : Found
fetched_again = record {
  times = 0 ∷ 1 ∷ 4 ∷ 1 ∷ 2 ∷ [];
  moves = 0 ∷ 1 ∷ 2 ∷ 1 ∷ 2 ∷ [];
  preds = source_mark ∷ 0 ∷ 3 ∷ 0 ∷ 1 ∷ [];
  ours = 0 ∷ 1 ∷ 0 ∷ [];
  dijkstras = 0 ∷ 0 ∷ 1 ∷ 0 ∷ 0 ∷ [];
}

-- M7: C1 to C3, with the moves.
abbrev pub of_m7 : Found
of_m7 = record {
  times = 0 ∷ 4 ∷ 3 ∷ 6 ∷ 2 ∷ 8 ∷ 9 ∷ [];
  moves = 0 ∷ 1 ∷ 2 ∷ 3 ∷ 1 ∷ 2 ∷ 3 ∷ [];
  preds = source_mark ∷ 0 ∷ 4 ∷ 2 ∷ 0 ∷ 4 ∷ 5 ∷ [];
  ours = 0 ∷ 1 ∷ 0 ∷ [];
  dijkstras = 0 ∷ 1 ∷ 0 ∷ 0 ∷ 0 ∷ 1 ∷ 1 ∷ [];
}

-- C6: both ways to station 3 have two moves, and predecessor 1 stays.
abbrev pub of_c6 : Found
of_c6 = record {
  times = 0 ∷ 6 ∷ 5 ∷ 10 ∷ [];
  moves = 0 ∷ 1 ∷ 1 ∷ 2 ∷ [];
  preds = source_mark ∷ 0 ∷ 0 ∷ 1 ∷ [];
  ours = 0 ∷ [];
  dijkstras = 0 ∷ 0 ∷ 0 ∷ 0 ∷ [];
}

-- The page of station 3 is refused, page 2; by time and number alone it would be that of station 1.
abbrev pub fewer_moves_refused : Outcome
fewer_moves_refused = refused 8 (on_page 2 0)
