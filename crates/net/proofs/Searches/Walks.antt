-- Walks against the costs of a search under way: a walk's end is no later than the walk, or the walk costs more
-- than some station still to be settled. So whoever is chosen has its least cost over walks, and two searches that
-- have settled the same stations choose alike, whichever stations they have relaxed.
use Rattle.common.proofs.Ground.{◌≡◌, refl, sym, ◌∙◌, ap, Bool, true, false, true≢false, ◌⊎◌, inl, inr, ⊎_elim, ℕ, suc}
use Rattle.common.proofs.Ground.{◌+◌, ◌≤◌, ◌<◌, arith}
use Rattle.common.proofs.Cases.{le-or-lt}
use Rattle.net.specs.declared.Choice.{Choice}
use Rattle.net.specs.declared.Choice.TheVariants.{Station, Nobody}
use Rattle.common.specs.Costs.{cost}
use Rattle.net.specs.Net.{Page, Frame, is_good, Walk, here, onward}
use Rattle.net.proofs.LeastCosts.{LeastCost}
use Rattle.net.specs.Search.{State, cost_of, is_settled}
use Rattle.net.proofs.Sound.{Sound}
use Rattle.net.proofs.Basics.Tests.{false_of}
use Rattle.net.proofs.Steps.Choose.{Next, NextIs}
use Rattle.net.proofs.Steps.Invariant.{Inv}

pub least-cost-one : (F : Frame) (page : ℕ → Page) (source v c d : ℕ) → LeastCost F page source v c
    → LeastCost F page source v d → c ≡ d
least-cost-one F page source v c d a b =
    let k = a.walk in
    let l = b.walk in
    omega (arith, a.least l.time l.moves l.walk, b.least k.time k.moves k.walk, k.is, l.is)

module _ {F : Frame} {page : ℕ → Page} {source : ℕ} (ok : Sound F page source) where
  pub walk_bound : (relaxed : State → ℕ → Bool) (s : State) → Inv ok relaxed s → (T : ℕ)
      → ((x : ℕ) → is_settled s x ≡ false → cost_of F s x < F.none → T ≤ cost_of F s x)
      → {x t m : ℕ} → Walk F page source x t m → (cost_of F s x ≤ cost t m) ⊎ (T < cost t m)
  walk_bound relaxed s i T floor here = inl (omega (arith, i.labels.rooted.source_cost))
  walk_bound relaxed s i T floor (onward {u = u} {t = t} {m = m} v w k g) = ⊎_elim
      (λ le. by_relaxed (relaxed s u) refl le)
      (λ lt. inr (omega arith))
      (walk_bound relaxed s i T floor k)
    where
      by_relaxed : (b : Bool) → relaxed s u ≡ b → cost_of F s u ≤ cost t m
          → (cost_of F s v ≤ cost (t + w) (suc m)) ⊎ (T < cost (t + w) (suc m))
      by_relaxed true e le = inl (omega (arith, (i.labels.met u v w e g).0))
      by_relaxed false e le = ⊎_elim
          (λ far. inl (omega (arith, i.tables.capped v)))
          (λ near. inr (omega (
            arith,
            floor u (false_of (is_settled s u) (λ d. true≢false (sym (i.done u d) ∙ e))) near,
          )))
          (le-or-lt F.none (cost_of F s u))

  module _ (relaxed : State → ℕ → Bool) (s : State) (i : Inv ok relaxed s) (u : ℕ) (n : Next F s u) where
    -- whoever is settled or is next has its least cost
    least_by : (x : ℕ) → cost_of F s x ≤ cost_of F s u → LeastCost F page source x (cost_of F s x)
    least_by x le = record {
      walk = (i.labels.rooted.root x (omega (arith, n.timed))).walk;
      least = λ t m k. ⊎_elim (λ h. h) (λ h. omega arith)
          (walk_bound relaxed s i (cost_of F s u) (λ y p q. (n.first y p q).low) k);
    }

    pub next_least : LeastCost F page source u (cost_of F s u)
    next_least = least_by u (omega arith)

    pub settled_least : (x : ℕ) → is_settled s x ≡ true → LeastCost F page source x (cost_of F s x)
    settled_least x e = least_by x (i.order x u e n.pending n.timed).low

    -- of all stations on bad pages, u comes first if it is one
    pub first_bad : (x t m : ℕ) → Walk F page source x t m → is_good (page (F.page_of x)) ≡ false
        → (cost_of F s u ≤ cost t m) × (cost t m ≤ cost_of F s u → u ≤ x)
    first_bad x t m k f = ⊎_elim
        (λ le. ⊎_elim
        (λ far. let t = n.timed in (omega arith, λ h. absurd (omega arith)))
        (λ near. let b = n.first x unsettled near in (omega arith, λ h. b.tie (omega arith)))
        (le-or-lt F.none (cost_of F s x)))
        (λ lt. (omega arith, λ h. absurd (omega arith)))
        (walk_bound relaxed s i (cost_of F s u) (λ y a b. (n.first y a b).low) k)
      where
        unsettled : is_settled s x ≡ false
        unsettled = false_of (is_settled s x) (λ e. true≢false (sym (i.labels.read x (i.done x e)) ∙ f))

  module _ (one other : State → ℕ → Bool) (s t : State) (i : Inv ok one s) (j : Inv ok other t)
      (same : (x : ℕ) → is_settled t x ≡ is_settled s x) where
    -- where s has a station to settle, t has one that comes no later
    never_alone : (u : ℕ) → Next F s u → NextIs F t Nobody → ⊥
    never_alone u n none =
        let l = (i.labels.rooted.root u n.timed).walk in
        ⊎_elim
        (λ le. none u (same u ∙ n.pending) (omega (arith, n.timed, l.is)))
        (λ lt. omega (arith, l.is))
        (walk_bound other t j (cost_of F s u) (λ x p q. absurd (none x p q)) l.walk)

    no_later : (u v : ℕ) → Next F s u → Next F t v
        → (cost_of F t v ≤ cost_of F s u) × (cost_of F s u ≤ cost_of F t v → v ≤ u)
    no_later u v n m =
        let l = (i.labels.rooted.root u n.timed).walk in
        let is = l.is in
        ⊎_elim
        (λ le. let b = m.first u (same u ∙ n.pending) (omega (arith, n.timed)) in
        (omega arith, λ h. b.tie (omega arith)))
        (λ lt. (omega arith, λ h. absurd (omega arith)))
        (walk_bound other t j (cost_of F t v) (λ x p q. (m.first x p q).low) l.walk)

  pub same_next : (one other : State → ℕ → Bool) (s t : State) → Inv ok one s → Inv ok other t
      → ((x : ℕ) → is_settled t x ≡ is_settled s x) → (c d : Choice) → NextIs F s c → NextIs F t d → c ≡ d
  same_next one other s t i j same Nobody Nobody n m = refl
  same_next one other s t i j same Nobody (Station v) n m = absurd
      (never_alone other one t s j i (λ x. sym (same x)) v m n)
  same_next one other s t i j same (Station u) Nobody n m = absurd (never_alone one other s t i j same u n m)
  same_next one other s t i j same (Station u) (Station v) n m =
      let a = no_later one other s t i j same u v n m in
      let b = no_later other one t s j i (λ x. sym (same x)) v u m n in
      ap Station (let e : u ≡ v = omega (arith, a.1 b.0, b.1 a.0) in e)
