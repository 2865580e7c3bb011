-- A search's working memory, and a move relaxed on it.
use Rattle.std.specs.Prelude.{◌≡◌, List, ℕ, ◌/◌, ◌<◌, min, ltb, length, get_or, set}
use Rattle.common.specs.Numbers.{nobody}
use Rattle.common.specs.Pick.{pick}
use Rattle.queue.specs.Keys.{packed}
use Rattle.queue.specs.Queue.{Groups, Put}
use Rattle.layout.specs.Places.{slot_of, page_at}
use Rattle.cells.specs.declared.Memory.{Memory}

-- "Per station the state has a time or none, a predecessor, a settled flag and a fresh flag": cost and predecessor of
-- station v are packed in its cell, entry v, which is nobody's where v has no time and 0 for the source. In its slot
-- stands the key by which it waits, nobody's where it does not: in the DF search a station waits if it has a time and
-- is not fresh, in the plain one if it is not settled. The queue has the least of these keys for each page.
abbrev pub memory : List ℕ → List ℕ → List ℕ → Memory
memory cells waiting queue = record { cells = cells; waiting = waiting; queue = queue }

-- The cost in nobody's cell, above every cost.
abbrev pub most_cost : ℕ
most_cost = nobody / 2048

-- "If v has no time, or sum is less, [..] v is not fresh": the key by which v waits from then on, that of nobody if its
-- cell is not lowered.
abbrev pub lowered_key : ℕ → ℕ → ℕ → ℕ
lowered_key cell sum v = pick (ltb sum (cell / 2048)) (packed sum v) nobody

-- "If v has no time, or sum is less, v gets sum and predecessor u, and v is not fresh. If sum equals v's time and u is
-- below v's predecessor, only the predecessor becomes u": v's cell is the lesser of itself and the one that the move
-- offers (proofs/Cells.antt), and its waiting key and the leaf of its page follow.
pub record Relaxed (places : List ℕ) (u v sum : ℕ) (before after : Memory) : Type 0 where
  pub cell : after.cells ≡ set before.cells v (min (get_or before.cells v 0) (packed sum u))
  pub waits : after.waiting ≡ set before.waiting (slot_of places v)
      (min (get_or before.waiting (slot_of places v) 0) (lowered_key (get_or before.cells v 0) sum v))
  pub leaf : Put before.queue (page_at places v)
      (min (get_or before.queue (page_at places v) 0) (lowered_key (get_or before.cells v 0) sum v)) after.queue

-- The tables have room for 2048 stations and 256 pages, and the queue is in order.
pub record Room (places : List ℕ) (m : Memory) : Type 0 where
  pub places_size : length places ≡ 4353
  pub cells_size : length m.cells ≡ 2048
  pub waiting_size : length m.waiting ≡ 2048
  pub groups : Groups m.queue

-- Station v has a slot and a page.
pub record PlacedAt (places : List ℕ) (v : ℕ) : Type 0 where
  pub slot : slot_of places v < 2048
  pub page : page_at places v < 256
