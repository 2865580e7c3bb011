-- What two images have in common, passed. For the code: nothing that is promised speaks of it.
use Rattle.std.specs.Prelude.{◌≡◌, Bool, ◌&&◌, List, ◌∷◌, ℕ, ◌+◌, get_or, set, eqb}
use Rattle.common.specs.Pick.{pick}
use Rattle.commands.specs.declared.Move.{Move}
use Rattle.commands.specs.Commands.{length_of}
use Rattle.move_record.specs.declared.MoveRecord.{MoveRecord}
use Rattle.roundtrip.specs.Records.{records_of}
use Rattle.std.specs.Prelude.{Option, Some, None}
use Rattle.by_station.specs.Next.{next_move}
use Rattle.by_station.specs.Standing.{Standing}
use Rattle.ordering.specs.Order.{by_records}

abbrev pub same_move : Move → Move → Bool
same_move m n = eqb m.target n.target && (eqb m.time n.time && eqb m.limit n.limit)

-- How a station goes on in two images: with a move that both have, and the offsets behind it; not alike; or not at all.
pub data Step : Type 0 where
  goes_on : ℕ → ℕ → Step
  parted : Step
  ended : Step

abbrev pub step_of : Option (Move × ℕ) → Option (Move × ℕ) → Step
step_of (Some (m, behind)) (Some (n, also_behind)) = pick (same_move m n) (goes_on behind also_behind) parted
step_of (Some found) None = parted
step_of None (Some found) = parted
step_of None None = ended

-- From two offsets of two pages up to two others the moves are the same.
module _ (page other : List ℕ) where
  pub data Passed (from also_from : ℕ) : ℕ → ℕ → Type 0 where
    none : Passed from also_from from also_from
    more : {at with : ℕ} (behind also_behind : ℕ) → Passed from also_from at with
        → step_of (next_move page at) (next_move other with) ≡ goes_on behind also_behind
        → Passed from also_from behind also_behind

-- They are passed as far as they go: there a station ends on both pages, or they go on with other moves.
pub record PassedMoves (page : List ℕ) (from : ℕ) (other : List ℕ) (also_from at with : ℕ) (over : Bool) : Type 0 where
  pub passed : Passed page other from also_from at with
  pub stopped : step_of (next_move page at) (next_move other with) ≡ pick over ended parted

-- The same of a station on page p and on page q, by how far pages are read: behind its moves the next station's own
-- command is passed too.
pub record PassedStation (page : List ℕ) (p : ℕ) (other : List ℕ) (q : ℕ) (before others_before : List ℕ) (over : Bool)
    (offsets others : List ℕ) : Type 0 where
  pub at : ℕ
  pub with : ℕ
  pub moves : PassedMoves page (get_or before p 0) other (get_or others_before q 0) at with over
  pub first : offsets ≡ set before p (pick over (at + length_of 1) at)
  pub second : others ≡ set others_before q (pick over (with + length_of 1) with)

-- A walk of each image stands at station u, and what is left of both lists of records has the order of the lists.
pub record Walking (first second first_offsets second_offsets : List ℕ) (u : ℕ) : Type 0 where
  pub first_left : List MoveRecord
  pub second_left : List MoveRecord
  pub first_stands : Standing first u first_offsets first_left
  pub second_stands : Standing second u second_offsets second_left
  pub same : by_records (records_of first) (records_of second) ≡ by_records first_left second_left

-- Two lists do not begin with the same record.
abbrev pub Part : List MoveRecord → List MoveRecord → Type 0
Part left also_left =
    (r : MoveRecord) (rest also_rest : List MoveRecord) → left ≡ r ∷ rest → also_left ≡ r ∷ also_rest → ⊥

pub record PassedStations (first second first_offsets second_offsets : List ℕ) (u : ℕ) : Type 0 where
  pub walking : Walking first second first_offsets second_offsets u
  pub part : Part walking.first_left walking.second_left
