-- A move relaxed, entry by entry: it keeps the room of every table, and writes one cell and one waiting key.
use Rattle.common.proofs.Ground.{◌≡◌, ◌∙◌, ◌≢◌, List, ℕ, ◌<◌, min, arith, get_or, set, length-set, get_or-set_same}
use Rattle.common.proofs.Ground.{get_or-set_other}
use Rattle.queue.specs.Keys.{packed}
use Rattle.layout.specs.Places.{slot_of}
use Rattle.cells.specs.declared.Memory.{Memory}
use Rattle.cells.specs.Cells.{memory, lowered_key, Relaxed, Room, PlacedAt}

module _ {places : List ℕ} {u : ℕ} where
  -- A relaxed move keeps every table's room and the queue in order.
  pub relaxed_room : {v sum : ℕ} {before after : Memory} → Relaxed places u v sum before after → Room places before →
      Room places after
  relaxed_room {before = before} r room = record {
    places_size = room.places_size;
    cells_size = rw r.cell (length-set before.cells _ _ ∙ room.cells_size);
    waiting_size = rw r.waits (length-set before.waiting _ _ ∙ room.waiting_size);
    groups = r.leaf.groups;
  }

  -- What it does to each cell and to each waiting key.
  module _ {v sum : ℕ} {before after : Memory} (r : Relaxed places u v sum before after) where
    pub relaxed_cell : Room places before → v < 2048 →
        get_or after.cells v 0 ≡ min (get_or before.cells v 0) (packed sum u)
    relaxed_cell room h = rw r.cell (get_or-set_same before.cells v _ 0 (omega (arith, room.cells_size)))

    pub relaxed_other : (w : ℕ) → w ≢ v → get_or after.cells w 0 ≡ get_or before.cells w 0
    relaxed_other w n = rw r.cell (get_or-set_other before.cells v w _ 0 n)

    pub relaxed_waits : Room places before → PlacedAt places v → get_or after.waiting (slot_of places v) 0
        ≡ min (get_or before.waiting (slot_of places v) 0) (lowered_key (get_or before.cells v 0) sum v)
    relaxed_waits room placed =
        rw r.waits
        (get_or-set_same before.waiting (slot_of places v) _ 0 (omega (arith, room.waiting_size, placed.slot)))

    pub relaxed_waits_other : (slot : ℕ) → slot ≢ slot_of places v →
        get_or after.waiting slot 0 ≡ get_or before.waiting slot 0
    relaxed_waits_other slot n = rw r.waits (get_or-set_other before.waiting (slot_of places v) slot _ 0 n)

-- So does another waiting key.
pub room_waiting : {places : List ℕ} {m : Memory} (slot key : ℕ) → Room places m →
    Room places (memory m.cells (set m.waiting slot key) m.queue)
room_waiting {m = m} slot key room = record {
  places_size = room.places_size;
  cells_size = room.cells_size;
  waiting_size = length-set m.waiting slot key ∙ room.waiting_size;
  groups = room.groups;
}
