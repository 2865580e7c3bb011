-- Map M7 as records and records as map M7 (02, C-16), and what the writer refuses, computed.
use Rattle.std.specs.Prelude.{◌≡◌, List, [], ◌∷◌, ◌++◌, ℕ, replicate, take}
use Rattle.move_record.specs.declared.MoveRecord.{MoveRecord}
use Rattle.roundtrip.specs.Records.{records_of, listing}
use Rattle.image.specs.Image.{accepted, refused, nowhere}
use Rattle.roundtrip.specs.Written.{written, WriteOutcome, said, refused_record, refused_page, write_check, writing}
use Rattle.roundtrip.specs.Promises.{ReadPromised, WritePromised}
use Rattle.course.specs.Cases.{m7}
use Rattle.course.specs.Handover.{through_three_pages}

-- A move without a limit, as document 01 writes it: from-target/time.
abbrev pub move : ℕ → ℕ → ℕ → MoveRecord
move from target time = record { from = from; target = target; time = time; limit = 0 }

-- "0-1/4, 0-4/2, 1-2/3, 2-3/3, 3-5/3, 4-2/1, 4-5/6, 5-6/1"
abbrev pub m7_moves : List MoveRecord
m7_moves =
    move 0 1 4 ∷ move 0 4 2 ∷ move 1 2 3 ∷ move 2 3 3 ∷ move 3 5 3 ∷ move 4 2 1 ∷ move 4 5 6 ∷ move 5 6 1 ∷ []

abbrev pub m7_directory : List ℕ
m7_directory = 0 ∷ 0 ∷ 0 ∷ 0 ∷ 1 ∷ 1 ∷ 1 ∷ []

-- What the writer says of records for N 3 on one page.
abbrev pub of_three : List MoveRecord → WriteOutcome
of_three records = write_check 3 1 (0 ∷ 0 ∷ 0 ∷ []) 263 records

-- So many stations on one page, without a move.
abbrev pub of_stations : ℕ → ℕ → WriteOutcome
of_stations count room = write_check count 1 (replicate count 0) room []

pub record Drawn : Type 0 where
  pub m7_read : records_of m7 ≡ m7_moves
  pub m7-written : written 7 2 m7_directory m7_moves ≡ m7
  -- stations 0 and 3 share a page, and the records are still by rising from; 2-3 has a limit
  pub by_station : records_of through_three_pages
      ≡ move 0 1 0 ∷ move 0 3 5 ∷ move 1 2 0 ∷ move 2 0 0 ∷ record { from = 2; target = 3; time = 0; limit = 9000 } ∷ []
  -- 19, each way, with the index of the first record at fault
  pub good_three : of_three (move 0 1 4 ∷ move 0 2 4 ∷ move 1 0 4 ∷ []) ≡ said accepted
  pub from_not_below : of_three (move 0 1 4 ∷ move 3 0 4 ∷ []) ≡ refused_record 19 1
  pub target_not_below : of_three (move 0 3 4 ∷ []) ≡ refused_record 19 0
  pub own_target : of_three (move 0 1 4 ∷ move 1 1 4 ∷ []) ≡ refused_record 19 1
  pub lower_target : of_three (move 0 1 4 ∷ move 0 2 4 ∷ move 0 1 4 ∷ []) ≡ refused_record 19 2
  pub equal_target : of_three (move 0 1 4 ∷ move 0 1 5 ∷ []) ≡ refused_record 19 1
  pub lower_from : of_three (move 1 0 4 ∷ move 0 2 4 ∷ []) ≡ refused_record 19 1
  -- "85 stations fit a page, 86 do not": 1 + 3·85 is 256
  pub fit_85 : of_stations 85 345 ≡ said accepted
  pub not_86 : of_stations 86 346 ≡ refused_page 20 0

-- Wrong versions of the two calls, each as what it would hand back, on lists of `count` entries and on buffers of
-- zeros. The promises allow none of them, so that no program that hands it back meets its contract.
abbrev pub entries : ℕ → List MoveRecord
entries count = replicate count (move 9 9 9)

abbrev pub zeros : ℕ → List ℕ
zeros count = replicate count 0

pub record RuledOut : Type 0 where
  -- accepted, and nothing listed
  pub nothing_listed : ReadPromised m7 (entries 9) (listing accepted 0 (entries 9)) → ⊥
  -- "the record list's entry past the count written"
  pub entry_past_the_count : ReadPromised m7 (entries 9) (listing accepted 8 (m7_moves ++ (move 0 0 0 ∷ []))) → ⊥
  -- as many as there is room for, and no 7
  pub list_cut_short : ReadPromised m7 (entries 7) (listing accepted 7 (take 7 m7_moves)) → ⊥
  -- every map refused, and every buffer left as it is
  pub all_refused : WritePromised 7 2 m7_directory m7_moves (zeros 523) (writing (said (refused 4 nowhere)) (zeros 523))
      → ⊥
  pub buffer_untouched : WritePromised 7 2 m7_directory m7_moves (zeros 523) (writing (said accepted) (zeros 523)) → ⊥
  -- "the buffer written before 20": 86 stations do not fit a page, and N was written
  pub written_before_20 : WritePromised 86 1 (replicate 86 0) [] (zeros 346)
      (writing (refused_page 20 0) (86 ∷ zeros 345)) → ⊥
