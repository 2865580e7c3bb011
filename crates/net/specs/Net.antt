-- A map as an abstract net: stations, the page of each, the moves that a page offers, and walks along them.
use mathlib.Core.List.{List, [], ◌∷◌, Memᴰ}
use Rattle.std.specs.Prelude.{Bool, true, false, not, ◌&&◌, ◌||◌, ℕ, zero, suc, ◌+◌, length, get_or, ltb, eqb}
use Rattle.common.specs.Costs.{no_cost}

-- A move: its target and its time.
pub record Move : Type 0 where
  pub target : ℕ
  pub time : ℕ

-- What reading a page gives: the moves of each of its stations in page order, or the number and the offset of its
-- refusal.
pub data Page : Type 0 where
  good : (ℕ → List Move) → Page
  bad : ℕ → ℕ → Page

-- What is known before a page is read: the number of stations, the page of each, and the number that stands for no
-- cost.
pub record Frame : Type 0 where
  pub size : ℕ
  pub page_of : ℕ → ℕ
  pub none : ℕ

-- A map's frame, by its directory, which has an entry for each station: its page.
abbrev pub frame : List ℕ → Frame
frame directory = record { size = length directory; page_of = λ v. get_or directory v 0; none = no_cost }

abbrev pub is_good : Page → Bool
is_good (good moves) = true
is_good (bad number offset) = false

-- The moves of station u by what its page gives; a bad page gives none.
abbrev pub moves_of : Page → ℕ → List Move
moves_of (good moves) u = moves u
moves_of (bad number offset) u = []

-- There is a move from u to v that takes time w, and the page of u is good.
abbrev pub Goes : Frame → (ℕ → Page) → ℕ → ℕ → ℕ → Type 0
Goes F page u v w = Memᴰ (record { target = v; time = w }) (moves_of (page (F.page_of u)) u)

-- `Walk F page source v t m`: a walk from the source to v that takes time t, in m moves. It may be empty, may repeat
-- stations, and leaves only stations on good pages.
pub data Walk (F : Frame) (page : ℕ → Page) (source : ℕ) : ℕ → ℕ → ℕ → Type 0 where
  here : Walk F page source source 0 0
  onward : {u t m : ℕ} (v w : ℕ) → Walk F page source u t m → Goes F page u v w
      → Walk F page source v (t + w) (suc m)

abbrev pub one : Bool → ℕ
one true = 1
one false = 0

-- How many numbers below n pass a test; how often p stands in a list; how many moves lead to v.
unfoldable pub count : (ℕ → Bool) → ℕ → ℕ
count test zero = 0
count test (suc n) = one (test n) + count test n

unfoldable pub times_in : ℕ → List ℕ → ℕ
times_in p [] = 0
times_in p (q ∷ list) = one (eqb p q) + times_in p list

unfoldable pub moves_to : ℕ → List Move → ℕ
moves_to v [] = 0
moves_to v (m ∷ moves) = one (eqb v m.target) + moves_to v moves

-- 01, entry station: v is the source, or the target of a move from a station on another listed page; it counts once.
module _ (F : Frame) (page : ℕ → Page) (source : ℕ) (list : List ℕ) where
  unfoldable pub enters_from : ℕ → ℕ → Bool
  enters_from v u =
      ltb 0 (times_in (F.page_of u) list) &&
      (not (eqb (F.page_of u) (F.page_of v)) && ltb 0 (moves_to v (moves_of (page (F.page_of u)) u)))

  unfoldable pub is_entry : ℕ → Bool
  is_entry v = eqb v source || ltb 0 (count (enters_from v) F.size)

  unfoldable pub entry_stations : ℕ → ℕ
  entry_stations p = count (λ v. eqb (F.page_of v) p && is_entry v) F.size

-- 01, one_page reads of a list: 1 for its first entry, 1 for each entry unlike the one before.
unfoldable pub changes : ℕ → List ℕ → ℕ
changes before [] = 0
changes before (p ∷ list) = one (not (eqb before p)) + changes p list

unfoldable pub one_page_reads : List ℕ → ℕ
one_page_reads [] = 0
one_page_reads (p ∷ list) = 1 + changes p list
