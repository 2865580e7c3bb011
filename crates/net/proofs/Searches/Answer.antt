-- A search that has ended and was not refused meets demand 2: every timed station is settled, so its moves are met
-- and its cost is least. The predecessors lead to the source because costs fall along them; a station has fewer
-- than N nearer ones, so they do within N - 1 steps.
use Rattle.common.proofs.Ground.{◌≡◌, refl, sym, Bool, true, ◌≢◌, ⊎_elim, dite, ℕ, zero, suc}
use Rattle.common.proofs.Ground.{◌+◌, ◌≤◌, ◌<◌, arith, ℕ_discrete, not-suc-le-zero}
use Rattle.common.proofs.Cases.{le-or-lt}
use Rattle.net.specs.declared.Choice.TheVariants.{Nobody}
use Rattle.common.specs.Costs.{cost}
use Rattle.net.specs.Net.{Page, Frame, Goes, Walk, here, onward}
use Rattle.net.specs.Search.{State, going, cost_of, pred_of, is_settled, choose, reached}
use Rattle.net.specs.Demands.{Spells, at_source, step}
use Rattle.net.proofs.LeastCosts.{LeastCosts}
use Rattle.net.proofs.Sound.{Sound, below_none}
use Rattle.net.proofs.Basics.Tests.{true_of}
use Rattle.net.proofs.Relaxing.Labels.{nearer, nearer_more, nearer_below_size, sum_below_none}
use Rattle.net.proofs.Steps.Choose.{NextIs, choose_next}
use Rattle.net.proofs.Steps.Invariant.{Inv}
use Rattle.net.proofs.Searches.Walks.{walk_bound}

module _ {F : Frame} {page : ℕ → Page} {source : ℕ} (ok : Sound F page source) where
  module _ (relaxed : State → ℕ → Bool) (s : State) (i : Inv ok relaxed s) (g : s.halt ≡ going)
      (ended : choose F s ≡ Nobody) where
    nobody_left : NextIs F s Nobody
    nobody_left = rw ended at (choose_next F s i.tables g)

    all_relaxed : (x : ℕ) → cost_of F s x < F.none → relaxed s x ≡ true
    all_relaxed x h = i.done x (true_of (is_settled s x) (λ e. nobody_left x e h))

    all_timed : {x t m : ℕ} → Walk F page source x t m → cost_of F s x < F.none
    all_timed here = omega (arith, i.labels.rooted.source_cost, below_none ok)
    all_timed (onward {u = u} v w k e) =
        let h : cost_of F s u < F.none = all_timed k in
        omega (
          arith,
          (i.labels.met u v w (all_relaxed u h) e).0,
          sum_below_none ok (cost_of F s) (pred_of s) i.labels.rooted u v w h e,
        )

    -- the predecessor's cost and the move make up the cost exactly
    exact : (v : ℕ) → cost_of F s v < F.none → v ≢ source
        → (w : ℕ) × Goes F page (pred_of s v) v w × (cost_of F s (pred_of s v) + cost w 1 ≡ cost_of F s v)
    exact v h ne =
        let f = (i.labels.rooted.root v h).from ne in
        let m = i.labels.met (pred_of s v) v f.0 (all_relaxed (pred_of s v) (omega (arith, f.2))) f.1 in
        (f.0, f.1, omega (arith, f.2, m.0))

    spelled : (n v : ℕ) → cost_of F s v < n → cost_of F s v < F.none
        → (t m : ℕ) × (m ≤ nearer F (cost_of F s) v) × Spells F page source s.preds v t m × (cost_of F s v ≡ cost t m)
    spelled zero v lt h = absurd (not-suc-le-zero lt)
    spelled (suc n) v lt h = dite (ℕ_discrete v source)
        (λ e. rw e (
          0,
          0,
          omega arith,
          at_source i.labels.rooted.source_pred,
          i.labels.rooted.source_cost,
        ))
        (λ ne.
        let f = exact v h ne in
        let u = pred_of s v in
        let less : cost_of F s u < cost_of F s v = omega (arith, f.2) in
        let before = spelled n u (omega arith) (omega arith) in
        let fewer = nearer_more F (cost_of F s) (cost_of F s) (λ y. omega arith) u v
        (i.labels.rooted.inside u (omega arith)) less in (
          before.0 + f.0,
          suc before.1,
          omega (arith, before.2),
          step v f.0 refl f.1 before.3,
          omega (arith, f.2, before.4),
        ))

    pub ended-least_costs : LeastCosts F page source s.costs s.preds (reached F s)
    unfolding reached
    ended-least_costs = record {
      sizes = (i.tables.costs, i.tables.preds);
      least = λ v t m k. ⊎_elim (λ le. le) (λ lt. absurd (omega arith))
          (walk_bound ok relaxed s i (cost t m) (λ y p q. absurd (nobody_left y p q)) k);
      timed = λ v t m k. all_timed k;
      pages_good = λ v t m k. i.labels.read v (all_relaxed v (all_timed k));
      untimed = λ v h. (omega (arith, i.tables.capped v), i.labels.rooted.none v h);
      spells = λ v h.
          let k = spelled (suc (cost_of F s v)) v (omega arith) h in
          record {
            time = k.0;
            moves = k.1;
            few = omega (arith, k.2, nearer_below_size F (cost_of F s) v (i.labels.rooted.inside v h));
            spells = k.3;
            is = k.4;
          };
      lowest = λ u v w ne e q. ⊎_elim
          (λ far. absurd (omega (arith, i.tables.capped v)))
          (λ near. (i.labels.met u v w (all_relaxed u near) e).1 (sym q))
          (le-or-lt F.none (cost_of F s u));
      count = refl;
    }
