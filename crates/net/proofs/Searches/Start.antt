-- The start: only the source has a time, nothing is settled or fresh, and the invariant of either search holds. By
-- reading tables with one entry set.
use Rattle.common.proofs.Ground.{◌≡◌, refl, sym, ◌∙◌, Bool, false, true≢false, ◌≢◌, dite, ℕ, ◌<◌, arith, ℕ_discrete}
use Rattle.common.proofs.Ground.{length, replicate, length-set, length-replicate, get_or-set_same, get_or-set_other}
use Rattle.common.specs.Numbers.{source_mark, no_pred}
use Rattle.net.specs.Net.{Page, Frame, here}
use Rattle.net.specs.Search.{State, mark_of, cost_of, pred_of, is_fresh, is_settled, start}
use Rattle.net.proofs.Sound.{Sound, below_none}
use Rattle.net.proofs.Basics.Marks.{get_d_replicate_same}
use Rattle.net.proofs.Relaxing.Relax.{Tables}
use Rattle.net.proofs.Relaxing.Labels.{Rooted, timed_inside}
use Rattle.net.proofs.Steps.Invariant.{Inv}

module _ {F : Frame} {page : ℕ → Page} {source : ℕ} (ok : Sound F page source) where
  start_time : cost_of F (start F source) source ≡ 0
  unfolding start
  start_time =
      let inside : source < length (replicate F.size F.none) = omega (
        arith,
        length-replicate F.size F.none,
        ok.source_in,
      ) in
      rw get_or-set_same

  start_other_time : (x : ℕ) → x ≢ source → cost_of F (start F source) x ≡ F.none
  unfolding start
  start_other_time x ne = rw get_or-set_other (get_d_replicate_same F.size x F.none)

  pub start_timed : (x : ℕ) → cost_of F (start F source) x < F.none → x ≡ source
  start_timed x h = dite (ℕ_discrete x source) (λ e. e) (λ ne. absurd (omega (arith, start_other_time x ne)))

  start_pred : pred_of (start F source) source ≡ source_mark
  unfolding start
  start_pred =
      let inside : source < length (replicate F.size no_pred) = omega (
        arith,
        length-replicate F.size no_pred,
        ok.source_in,
      ) in
      rw get_or-set_same

  start_other_pred : (x : ℕ) → x ≢ source → pred_of (start F source) x ≡ no_pred
  unfolding start
  start_other_pred x ne = rw get_or-set_other (get_d_replicate_same F.size x no_pred)

  start_mark : (x : ℕ) → mark_of (start F source) x ≡ 0
  unfolding start
  start_mark x = get_d_replicate_same F.size x 0

  pub start_unsettled : (x : ℕ) → is_settled (start F source) x ≡ false
  start_unsettled x = rw (start_mark x)

  pub start_stale : (x : ℕ) → is_fresh (start F source) x ≡ false
  start_stale x = rw (start_mark x)

  pub start_tables : Tables F (start F source)
  unfolding start
  start_tables = record {
    costs = length-set (replicate F.size F.none) source 0 ∙ length-replicate F.size F.none;
    preds = length-set (replicate F.size no_pred) source source_mark ∙ length-replicate F.size no_pred;
    marks = length-replicate F.size 0;
    below = λ x. rw (get_d_replicate_same {A = ℕ} F.size x 0) (omega arith);
    capped = λ x. dite (ℕ_discrete x source) (λ e. rw e (omega (arith, start_time)))
        (λ ne. omega (arith, start_other_time x ne));
  }

  pub start_rooted : Rooted ok (cost_of F (start F source)) (pred_of (start F source))
  start_rooted = record {
    inside = timed_inside F (start F source) start_tables;
    source_cost = start_time;
    source_pred = start_pred;
    root = λ x h. let e = start_timed x h in rw e (record {
      walk = record { time = 0; moves = 0; walk = here; is = start_time };
      few = omega arith;
      from = λ ne. absurd (ne refl);
    });
    near = λ x h. let e = start_timed x h in rw e (omega (arith, start_time));
    none = λ x h. start_other_pred x (λ e. let z = rw e at h in omega (arith, start_time, below_none ok));
  }

  pub start_inv : (relaxed : State → ℕ → Bool) → ((x : ℕ) → relaxed (start F source) x ≡ false)
      → Inv ok relaxed (start F source)
  start_inv relaxed none = record {
    tables = start_tables;
    labels = record {
      rooted = start_rooted;
      met = λ u v w e g. absurd (true≢false (sym e ∙ none u));
      timed = λ u e. absurd (true≢false (sym e ∙ none u));
      read = λ u e. absurd (true≢false (sym e ∙ none u));
    };
    done = λ x e. absurd (true≢false (sym e ∙ start_unsettled x));
    order = λ x y e f h. absurd (true≢false (sym e ∙ start_unsettled x));
  }
