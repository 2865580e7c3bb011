-- Demand 2 and the refused page in terms of costs, as a search has them. In terms of times and moves, as the demands
-- have them (specs/Demands), they follow from these (Ways).
use Rattle.common.proofs.Ground.{◌≡◌, true, false, ◌≢◌, List, ℕ, ◌+◌, ◌≤◌, ◌<◌, length, get_or, ltb}
use Rattle.common.specs.Numbers.{no_pred}
use Rattle.common.specs.Costs.{cost}
use Rattle.net.specs.Net.{Page, bad, Frame, is_good, Goes, Walk, count}
use Rattle.net.specs.Demands.{Spells}

module _ (F : Frame) (page : ℕ → Page) (source : ℕ) where
  -- A walk of cost c leads to v.
  pub record Leads (v c : ℕ) : Type 0 where
    pub time : ℕ
    pub moves : ℕ
    pub walk : Walk F page source v time moves
    pub is : c ≡ cost time moves

  -- c is the least cost over all walks to v.
  pub record LeastCost (v c : ℕ) : Type 0 where
    pub walk : Leads v c
    pub least : (t m : ℕ) → Walk F page source v t m → c ≤ cost t m

  -- The predecessors spell out a walk of cost c, of fewer moves than there are stations.
  pub record Spelled (preds : List ℕ) (v c : ℕ) : Type 0 where
    pub time : ℕ
    pub moves : ℕ
    pub few : moves < F.size
    pub spells : Spells F page source preds v time moves
    pub is : c ≡ cost time moves

  pub record LeastCosts (costs preds : List ℕ) (reached : ℕ) : Type 0 where
    pub sizes : (length costs ≡ F.size) × (length preds ≡ F.size)
    pub least : (v t m : ℕ) → Walk F page source v t m → get_or costs v F.none ≤ cost t m
    pub timed : (v t m : ℕ) → Walk F page source v t m → get_or costs v F.none < F.none
    pub pages_good : (v t m : ℕ) → Walk F page source v t m → is_good (page (F.page_of v)) ≡ true
    pub untimed : (v : ℕ) → F.none ≤ get_or costs v F.none
        → (get_or costs v F.none ≡ F.none) × (get_or preds v no_pred ≡ no_pred)
    pub spells : (v : ℕ) → get_or costs v F.none < F.none → Spelled preds v (get_or costs v F.none)
    pub lowest : (u v w : ℕ) → v ≢ source → Goes F page u v w
        → get_or costs u F.none + cost w 1 ≡ get_or costs v F.none → get_or preds v no_pred ≤ u
    pub count : reached ≡ count (λ v. ltb (get_or costs v F.none) F.none) F.size

  -- The station, of all on bad pages, least by cost and then number over walks.
  pub record FirstBad (number p offset : ℕ) : Type 0 where
    pub station : ℕ
    pub held : ℕ
    pub walk : Leads station held
    pub on : F.page_of station ≡ p
    pub why : page p ≡ bad number offset
    pub first : (v t m : ℕ) → Walk F page source v t m → is_good (page (F.page_of v)) ≡ false
        → (held ≤ cost t m) × (cost t m ≤ held → station ≤ v)
