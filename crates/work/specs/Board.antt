-- How the engine's working memory stands for a state of the net's searches, with a page in hand or none.
use Rattle.std.specs.Prelude.{◌≡◌, ◌≢◌, Bool, true, false, List, ℕ, ◌+◌, ◌-◌, ◌%◌, ◌≤◌, ◌<◌, ltb, length, get_or}
use Rattle.common.specs.Numbers.{source_mark, no_pred, nobody}
use Rattle.common.specs.Costs.{no_cost}
use Rattle.common.specs.Pick.{pick}
use Rattle.net.specs.declared.Choice.{Choice}
use Rattle.net.specs.declared.Choice.TheVariants.{Station, Nobody}
use Rattle.net.specs.Net.{Page, Frame, frame}
use Rattle.net.specs.Search.{State, cost_of, pred_of}
use Rattle.net.specs.Run.{waits}
use Rattle.net.proofs.Sound.{Sound}
use Rattle.layout.specs.Places.{first_slot, slot_of, Placed}
use Rattle.queue.specs.Keys.{packed, least_from}
use Rattle.cells.specs.declared.Memory.{Memory}
use Rattle.cells.specs.Cells.{Room}

-- The cell of station v: the source's is 0, nobody's where v has no time, and otherwise cost and predecessor.
pub record CellIs (source v held pred cell : ℕ) : Type 0 where
  pub own : v ≡ source → (held ≡ 0) × (pred ≡ source_mark) × (cell ≡ 0)
  pub timed : v ≢ source → held < no_cost → (pred < 2048) × (cell ≡ packed held pred)
  pub untimed : v ≢ source → no_cost ≤ held → (held ≡ no_cost) × (pred ≡ no_pred) × (cell ≡ nobody)

-- The key of a station that waits, or does not.
abbrev pub key_if : Bool → ℕ → ℕ → ℕ
key_if true held v = packed held v
key_if false held v = nobody

-- The least key of those that wait on page p, and the station that a least key names.
abbrev pub least_on : List ℕ → List ℕ → ℕ → ℕ
least_on places waiting p = least_from waiting (first_slot places p) (first_slot places (p + 1) - first_slot places p)

abbrev pub chosen : ℕ → Choice
chosen key = pick (ltb key nobody) (Station (key % 2048)) Nobody

-- Which search: DF or plain, the directory of its map, how many pages it has and what they offer, and its source.
pub record Serving : Type 0 where
  pub df : Bool
  pub directory : List ℕ
  pub count : ℕ
  pub page : ℕ → Page
  pub source : ℕ

abbrev pub frame_of : Serving → Frame
frame_of q = frame q.directory

-- The net's search is sound, and its stations are placed.
pub record Placing (q : Serving) (places : List ℕ) : Type 0 where
  pub sound : Sound (frame_of q) q.page q.source
  pub placed : Placed q.directory places
  pub few : q.count ≤ 256
  pub bytes : (v : ℕ) → get_or q.directory v 0 < 256
  pub paged : (v : ℕ) → v < length q.directory → get_or q.directory v 0 < q.count

-- In state s station v has its cell, and its key in its slot.
abbrev pub StationIs : Serving → List ℕ → State → Memory → ℕ → Type 0
StationIs q places s m v =
    CellIs q.source v (cost_of (frame_of q) s v) (pred_of s v) (get_or m.cells v 0) ×
    (get_or m.waiting (slot_of places v) 0 ≡ key_if (waits q.df (frame_of q) s v) (cost_of (frame_of q) s v) v)

-- Each page's leaf holds the least key of those that wait there. That of the page in hand may be anything; 256 stands
-- for no page.
abbrev pub Leaves : List ℕ → ℕ → Memory → Type 0
Leaves places hand m = (p : ℕ) → p < 256 → p ≢ hand → get_or m.queue p 0 ≡ least_on places m.waiting p

-- The memory stands for state s, with such a page in hand.
pub record Board (q : Serving) (places : List ℕ) (hand : ℕ) (s : State) (m : Memory) : Type 0 where
  pub placing : Placing q places
  pub room : Room places m
  pub station : (v : ℕ) → v < length q.directory → StationIs q places s m v
  pub leaf : Leaves places hand m
