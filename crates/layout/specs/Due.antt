-- The station of a page that is due next while the page is read, found by its slot.
use Rattle.std.specs.Prelude.{◌≡◌, List, ℕ, ◌+◌, ◌≤◌, ◌<◌, length, get_or}
use Rattle.layout.specs.Places.{first_slot, slot_of}

-- Of page p the stations below `after` have been read, and `due` is the slot behind theirs.
pub record Due (directory places : List ℕ) (p after due : ℕ) : Type 0 where
  pub low : first_slot places p ≤ due
  pub high : due ≤ first_slot places (p + 1)
  pub behind : (v : ℕ) → v < length directory → get_or directory v 0 ≡ p → v < after → slot_of places v < due
  pub ahead : (v : ℕ) → v < length directory → get_or directory v 0 ≡ p → after ≤ v → due ≤ slot_of places v

-- It is due on page p, and `past` is the first slot of the page behind.
pub record OnPage (directory places : List ℕ) (p past after due : ℕ) : Type 0 where
  pub page : p < 256
  pub ends : past ≡ first_slot places (p + 1)
  pub slot : Due directory places p after due

-- Station v is the first from `after` on that the directory gives page p.
pub record Next (directory : List ℕ) (p after v : ℕ) : Type 0 where
  pub station : v < length directory
  pub on : get_or directory v 0 ≡ p
  pub from : after ≤ v
  pub first : (u : ℕ) → after ≤ u → u < v → get_or directory u 0 ≡ p → ⊥
