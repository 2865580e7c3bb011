-- The order of maps (02, C-17) on small maps, computed: what decides it, that the same moves on other pages make an
-- equal map, whose page lists differ, and which image is refused.
use Rattle.std.specs.Prelude.{◌≡◌, List, [], ◌∷◌, ℕ, replicate}
use Rattle.image.specs.Image.{on_page}
use Rattle.move_record.specs.declared.MoveRecord.{MoveRecord}
use Rattle.roundtrip.specs.Written.{written}
use Rattle.reply.specs.Reply.{list_of}
use Rattle.ordering.specs.Order.{Naming, ordered, first_less, equal, second_less, first_refused, second_refused, naming}
use Rattle.course.specs.Cases.{m7, m7_bad, single, diamond, apart, ours, dijkstras}
use Rattle.course.specs.Records.{move, m7_moves}

-- The moves of M7 on one page.
abbrev pub m7_on_one_page : List ℕ
m7_on_one_page = written 7 1 (replicate 7 0) m7_moves

-- Two maps of three stations on one page, each by its records.
abbrev pub of_three : List MoveRecord → List MoveRecord → Naming
of_three first second = let drawn = written 3 1 (0 ∷ 0 ∷ 0 ∷ []) in naming (drawn first) (drawn second)

abbrev pub limited : MoveRecord
limited = record { from = 0; target = 1; time = 4; limit = 9000 }

pub record Ordered : Type 0 where
  -- "though page lists may differ": times, moves and predecessors agree by the law (ordering/proofs/Searches.antt)
  pub other_pages : naming m7 m7_on_one_page ≡ ordered equal
  pub our_lists : (list_of (ours m7 0) ≡ 0 ∷ 1 ∷ 0 ∷ []) × (list_of (ours m7_on_one_page 0) ≡ 0 ∷ [])
  pub dijkstras_lists : (list_of (dijkstras m7 0) ≡ 0 ∷ 1 ∷ 0 ∷ 0 ∷ 0 ∷ 1 ∷ 1 ∷ [])
      × (list_of (dijkstras m7_on_one_page 0) ≡ replicate 7 0)
  -- each of the four numbers decides, whatever those behind it are; a move without a limit comes before one with
  pub by_from : of_three (move 0 2 9 ∷ []) (move 1 0 1 ∷ []) ≡ ordered first_less
  pub by_target : of_three (move 0 2 1 ∷ []) (move 0 1 9 ∷ []) ≡ ordered second_less
  pub by_time : of_three (limited ∷ []) (move 0 1 5 ∷ []) ≡ ordered first_less
  pub by_limit : of_three (limited ∷ []) (move 0 1 4 ∷ []) ≡ ordered second_less
  -- a list that is a front part comes first; one that goes on from a lower station comes before one that goes on later
  pub front_part : of_three (move 0 1 4 ∷ []) (move 0 1 4 ∷ move 2 0 1 ∷ []) ≡ ordered first_less
  pub longer : of_three (move 0 1 4 ∷ move 0 2 1 ∷ []) (move 0 1 4 ∷ []) ≡ ordered second_less
  pub goes_on_lower : of_three (move 0 1 4 ∷ move 0 2 9 ∷ []) (move 0 1 4 ∷ move 2 0 1 ∷ []) ≡ ordered first_less
  -- N before any record: the first move of the map of 4 stations takes longer than that of M7
  pub by_stations : naming diamond m7 ≡ ordered first_less
  -- the first image first, and the second though N is another
  pub both_bad : naming apart m7_bad ≡ first_refused 8 (on_page 1 0)
  pub second_bad : naming single m7_bad ≡ second_refused 8 (on_page 1 0)
