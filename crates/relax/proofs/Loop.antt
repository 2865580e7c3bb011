-- The loop over some rows, which has relaxed the first i: whatever the rest of them leads to from the memory as it is
-- now, all of them lead to from the memory as it was at first.
use Rattle.common.proofs.Ground.{◌≡◌, List, ◌∷◌, ℕ, ◌+◌, ◌/◌, ◌%◌, ◌<◌, ◌≤◌, add-one, length, get_or}
use Rattle.common.proofs.Ground.{drop, drop-cons, drop_of_length-le}
use Rattle.common.specs.Costs.{cost}
use Rattle.cells.specs.declared.Memory.{Memory}
use Rattle.cells.specs.Cells.{Relaxed, Room}
use Rattle.relax.specs.Visits.{Relaxing, none, more, Targets}
use Rattle.cells.proofs.Relaxed.{relaxed_room}

pub record Going (places rows : List ℕ) (u held : ℕ) (first : Memory) (i : ℕ) (now : Memory) : Type 0 where
  pub rest : {last : Memory} → Relaxing places u held (drop i rows) now last → Relaxing places u held rows first last
  pub targets : Targets places (drop i rows)
  pub room : Room places now

module _ {places rows : List ℕ} {u held : ℕ} {first : Memory} where
  pub going_end : {i : ℕ} {now : Memory} → Going places rows u held first i now → length rows ≤ i
      → Relaxing places u held rows first now
  going_end {i} g h = g.rest (rw (drop_of_length-le rows h) none)

  module _ {i : ℕ} {now : Memory} (g : Going places rows u held first i now) (h : i < length rows) where
    first_row : drop i rows ≡ get_or rows i 0 ∷ drop (i + 1) rows
    first_row = rw (add-one i) (drop-cons rows i 0 h)

    pub going_more : {next : Memory}
        → Relaxed places u (get_or rows i 0 % 2048) (held + cost (get_or rows i 0 / 2048) 1) now next
        → Going places rows u held first (i + 1) next
    going_more r = record {
      rest = λ later. g.rest (rw first_row (more r later));
      targets = (rw first_row at g.targets).1;
      room = relaxed_room r g.room;
    }
