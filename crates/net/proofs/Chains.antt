-- C-15: predecessors that meet demand 2 all lead to the source, whatever the search, and whatever time moves take.
use Rattle.common.proofs.Ground.{◌≡◌, refl, ⊎_elim, dite, List, ℕ, ◌≤◌, arith, ℕ_discrete, get_or-eq_default}
use Rattle.common.proofs.Cases.{le-or-lt}
use Rattle.common.specs.Numbers.{no_time, source_mark}
use Rattle.common.specs.Chains.{pred_at, back, ChainsEnd}
use Rattle.net.specs.Net.{Page, Frame}
use Rattle.net.specs.Demands.{time_at, moves_at, Spells, at_source, step, LeastTimes}
use Rattle.net.proofs.Fixed.{at_source_pred, by_pred}

module _ (F : Frame) (page : ℕ → Page) (source : ℕ) where
  -- a walk that predecessors spell has as many moves as there are steps back to the source
  spells_back : {preds : List ℕ} {v t m : ℕ} → Spells F page source preds v t m → back preds m v ≡ source
  unfolding back
  spells_back (at_source e) = refl
  spells_back (step v w e g sp) = rw e (spells_back sp)

  module _ {times moves preds : List ℕ} {n : ℕ} (small : F.size ≤ source_mark)
      (a : LeastTimes F page source times moves preds n) where
    -- a number that is no station has no time
    not_above : (v : ℕ) → F.size ≤ v → no_time ≤ time_at times v
    not_above v h = omega (arith, get_or-eq_default times no_time {n = v} (omega (arith, a.sizes.0)))

    pub chains_end : ChainsEnd F.size source preds
    chains_end = record {
      source_entry = at_source_pred F page source a;
      no_other = λ v is. dite (ℕ_discrete v source) (λ e. e)
          (λ ne.
          ⊎_elim (λ far. absurd (omega (arith, (a.untimed v far).2)))
          (λ near.
          let k = by_pred F page source a v ne near in
          absurd (omega (arith, k.2, not_above (pred_at preds v) (omega arith))))
          (le-or-lt no_time (time_at times v)));
      ends = λ v has.
          ⊎_elim (λ far. absurd (has (a.untimed v far).2))
          (λ near. let s = a.spells v near in (moves_at moves v, s.0, spells_back s.1))
          (le-or-lt no_time (time_at times v));
    }
