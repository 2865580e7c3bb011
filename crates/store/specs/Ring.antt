-- What the call's tests say of the list and the distances, and how two tables link the pages that a store holds into a
-- ring. For the code: nothing that is promised speaks of it.
use Rattle.std.specs.Prelude.{◌≡◌, Bool, not, ◌&&◌, ℕ, ◌+◌, ◌*◌, ◌≤◌, ◌<◌, min, length, get_or, ltb, eqb}
use mathlib.Core.List.{List, [], ◌∷◌, Memᴰ}
use Rattle.net.specs.Net.{one}
use Rattle.image.specs.Image.{first_not_below}
use Rattle.paging.specs.Store.{holds, leaving, after_miss, after_reference}
use Rattle.paging.proofs.Held.{Distinct}

-- Every entry of the list is a page, and the table of distances is as long as it has to be.
abbrev pub is_fit : List ℕ → ℕ → List ℕ → Bool
is_fit list pages distances =
    not (ltb (first_not_below pages list) (length list)) && eqb (length distances) (pages * pages)

-- A table of the distances between so many pages.
pub record Table (pages : ℕ) (distances : List ℕ) : Type 0 where
  pub few : (0 < pages) × (pages ≤ 240)
  pub full : length distances ≡ pages * pages

-- The tables lead from a through the pages to b, and back.
module _ (older newer : List ℕ) where
  abbrev pub Linked : ℕ → ℕ → Type 0
  Linked a b = (get_or older a 0 ≡ b) × (get_or newer b 0 ≡ a)

  abbrev pub Chain : ℕ → List ℕ → ℕ → Type 0
  Chain a [] b = Linked a b
  Chain a (p ∷ held) b = Linked a p × Chain p held b

-- They lead from the end through the pages held, the latest first, back to the end; other pages have none.
pub record Ring (pages : ℕ) (held older newer : List ℕ) : Type 0 where
  pub chain : Chain older newer 255 held 255
  pub distinct : Distinct held
  pub below : (p : ℕ) → Memᴰ p held → p < pages
  pub others : (p : ℕ) → p < pages → (Memᴰ p held → ⊥) → get_or newer p 0 ≡ 254

-- A store of some frames holds these pages after so many reads, the page last referred to first.
pub record Holding (pages frames last reads : ℕ) (held older newer : List ℕ) : Type 0 where
  pub ring : Ring pages held older newer
  pub count : length held ≡ min reads frames
  pub last-is : get_or held 0 0 ≡ last

-- It holds some pages; the page last referred to is below their number, and the tables are long enough.
pub record Store (pages frames last reads : ℕ) (older newer : List ℕ) : Type 0 where
  pub held : List ℕ
  pub holding : Holding pages frames last reads held older newer
  pub some : 0 < frames
  pub row : last < pages
  pub memory : (length older ≡ 256) × (length newer ≡ 256)

-- Every frame holds a page.
pub record Full (pages frames last : ℕ) (newer : List ℕ) : Type 0 where
  pub held : List ℕ
  pub older : List ℕ
  pub ring : Ring pages held older newer
  pub count : length held ≡ frames
  pub some : 0 < frames
  pub row : last < pages

module _ (pages : ℕ) (distances : List ℕ) (threshold frames : ℕ) where
  -- The page leaves, whatever pages are held in every frame.
  abbrev pub Leaves : ℕ → List ℕ → ℕ → Type 0
  Leaves last newer p =
      (held older : List ℕ) → Ring pages held older newer → length held ≡ frames → get_or held 0 0 ≡ last
      → p ≡ leaving pages distances threshold held

  -- There is room: the store holds what it does after a miss.
  abbrev pub Room : ℕ → ℕ → List ℕ → List ℕ → List ℕ → List ℕ → Type 0
  Room last reads older newer older_now newer_now =
      (held : List ℕ) → Holding pages frames last reads held older newer
      → Ring pages (after_miss pages distances threshold frames held) older_now newer_now

  -- Page p has been referred to.
  abbrev pub Referred : ℕ → ℕ → ℕ → List ℕ → List ℕ → ℕ → List ℕ → List ℕ → Type 0
  Referred p last reads older newer reads_now older_now newer_now =
      (held : List ℕ) → Holding pages frames last reads held older newer
      → Holding pages frames p reads_now (after_reference pages distances threshold frames p held) older_now newer_now
      × (reads_now ≡ reads + one (not (holds p held)))
