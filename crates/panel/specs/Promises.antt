-- What the panel's call promises of what it answers, inside and outside: the equation; that each float is exactly the
-- number meant; and demand 2 for the one station, with walks.
use Rattle.std.specs.Prelude.{◌≡◌, true, false, ℕ, ◌+◌, ◌≤◌, Float}
use Rattle.std.specs.Float.Ieee.Exact.{HasValue}
use Rattle.net.specs.Net.{is_good, Walk}
use Rattle.reply.specs.Reply.{Query, frame_of, pages_of}
use Rattle.panel.specs.declared.Shown.{Shown}
use Rattle.panel.specs.declared.Shown.TheVariants.{Tenths, NoRoute, Refused}
use Rattle.panel.specs.Panel.{Answer, time, unreached, turned_down, answer_to, inside, outside}

-- The float x is n, or is -n. The library's `HasValue x sign n 1` says that x is finite, has this sign (true is minus)
-- and is n / 1 in size.
abbrev pub Is : Float → ℕ → Type 0
Is x n = HasValue x false n 1

abbrev pub IsMinus : Float → ℕ → Type 0
IsMinus x n = HasValue x true n 1

-- What an answer can be read as: inside by the variant, outside by the kind of the float.
pub data ReadInside : Shown → Answer → Type 0 where
  tenths : (x : Float) (n : ℕ) → Is x n → ReadInside (Tenths x) (time n)
  none : ReadInside NoRoute unreached
  number : (n : ℕ) → ReadInside (Refused n) (turned_down n)

abbrev pub ReadOutside : Float → Answer → Type 0
ReadOutside x (time n) = Is x n
ReadOutside x unreached = IsMinus x 1
ReadOutside x (turned_down n) = IsMinus x (100 + n)

-- A walk along moves open to the length leads from the source to station v in time c, by some number of moves.
abbrev pub LeadsTo : Query → ℕ → ℕ → Type 0
LeadsTo q v c = (m : ℕ) × Walk (frame_of q) (pages_of q) q.source v c m

-- Demand 2 for one station, of an answer that can be read as `Reads` says.
module _ (q : Query) (station : ℕ) (Reads : Answer → Type 0) where
  abbrev pub NotRefused : Type 0
  NotRefused = (number : ℕ) → Reads (turned_down number) → ⊥

  pub record ByWalks : Type 0 where
    -- a time is that of a walk to the station, and no walk is shorter
    pub time : (n : ℕ) → Reads (time n) → LeadsTo q station n × ((c : ℕ) → LeadsTo q station c → n ≤ c)
    -- there is no route exactly when no walk leads there
    pub no_route : Reads unreached → (c : ℕ) → LeadsTo q station c → ⊥
    pub no_walk : NotRefused → ((c : ℕ) → LeadsTo q station c → ⊥) → Reads unreached
    -- the page of every station with a walk is good: a walk leaves only such stations, so that no walk is left out
    pub pages_good : NotRefused → (v c : ℕ) → LeadsTo q v c → is_good (pages_of q ((frame_of q).page_of v)) ≡ true

module _ (q : Query) (station : ℕ) where
  pub record Promised {A : Type 0} (answer : Answer → A) (Reads : A → Answer → Type 0) (r : A) : Type 0 where
    pub outcome : r ≡ answer (answer_to q station)
    pub exact : Reads r (answer_to q station)
    pub walks : ByWalks q station (Reads r)
    -- the greatest time is that of 2,047 moves of 65,535 tenths
    pub most : (n : ℕ) → Reads r (time n) → n ≤ 134150145
    -- "tables of its own": none is too short
    pub never_7 : Reads r (turned_down 7) → ⊥

  abbrev pub InsidePromised : Shown → Type 0
  InsidePromised = Promised inside ReadInside

  abbrev pub OutsidePromised : Float → Type 0
  OutsidePromised = Promised (λ a. outside (inside a)) ReadOutside
