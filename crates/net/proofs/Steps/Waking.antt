-- Who waits (specs/Run) while a station x is visited: x stops waiting, and each relaxed move makes its target wait if
-- it lowers it, and changes nobody else. In the DF search a lowered station is not fresh; in the plain search none that
-- is settled is lowered, since settled stations are no later than x and every move weighs something.
use Rattle.common.proofs.Ground.{◌≡◌, refl, sym, ◌∙◌, Bool, true, false, not, ◌&&◌, ◌||◌, true≢false, ◌≢◌, ⊎_elim}
use Rattle.common.proofs.Ground.{dite, List, Memᴰ, ℕ, ◌+◌, ◌≤◌, ◌<◌, arith, ℕ_discrete, length, ltb, eqb, lt-ltb}
use Rattle.common.proofs.Ground.{le-ltb, eq-eqb, ne_eqb}
use Rattle.common.specs.Costs.{cost}
use Rattle.net.specs.Net.{Move, Page, Frame, Goes}
use Rattle.net.specs.Search.{State, cost_of, pred_of, is_settled, is_fresh, relax, relax_all}
use Rattle.net.specs.Run.{is_done, stop_waiting, waits}
use Rattle.net.proofs.Sound.{Sound}
use Rattle.net.proofs.Basics.Tests.{false_of}
use Rattle.net.proofs.Basics.Marks.{settle_settles, settle_other, mark_fresh_own, mark_fresh_other}
use Rattle.net.proofs.Relaxing.Relax.{Tables, Kind, lowered, tied, kept, Relaxed, Spread, relax_relaxed}
use Rattle.net.proofs.Relaxing.Labels.{Rooted, sum_below_none, relax_all_rooted}
use Rattle.net.proofs.Steps.Choose.{Next}
use Rattle.net.proofs.Steps.Invariant.{settle_tables, settled_cases}
use Rattle.net.proofs.Steps.PageLoop.{mark_fresh_tables}
use Rattle.net.proofs.Steps.Waiting.{waits_if}
use Rattle.net.proofs.Steps.Turns.{Steady}

-- x stops waiting.
module _ (x : ℕ) (s : State) (small : x < length s.marks) where
  stopped_own : (df : Bool) → is_done df (stop_waiting df x s) x ≡ true
  stopped_own true = mark_fresh_own s x small
  stopped_own false = settle_settles s x small

  stopped_other : (df : Bool) (v : ℕ) → v ≢ x → is_done df (stop_waiting df x s) v ≡ is_done df s v
  stopped_other true = mark_fresh_other s x small
  stopped_other false = settle_other s x small

pub stopped_time : (F : Frame) (df : Bool) (x : ℕ) (s : State) (v : ℕ) → cost_of F (stop_waiting df x s) v ≡ cost_of F s v
stopped_time F true x s v = refl
stopped_time F false x s v = refl

pub stopped_waits : (F : Frame) (df : Bool) (x : ℕ) (s : State) → x < length s.marks → (v : ℕ)
    → waits df F (stop_waiting df x s) v ≡ (not (eqb v x) && waits df F s v)
stopped_waits F df x s small v = dite (ℕ_discrete v x)
    (λ q. rw q (rw (stopped_own x s small df, eq-eqb x x refl)))
    (λ ne. rw (stopped_other x s small df v ne, stopped_time F df x s v, ne_eqb v x ne))

module _ {F : Frame} {page : ℕ → Page} {source : ℕ} (ok : Sound F page source) where
  -- what holds while moves of x are relaxed; in the plain search no settled station is later than x
  pub record Visiting (df : Bool) (x : ℕ) (r : State) : Type 0 where
    pub tables : Tables F r
    pub rooted : Rooted ok (cost_of F r) (pred_of r)
    pub timed : cost_of F r x < F.none
    pub last : df ≡ false → (v : ℕ) → is_settled r v ≡ true → cost_of F r v ≤ cost_of F r x

  pub visiting_begins : (df : Bool) (x : ℕ) (s : State) → Steady ok df s → cost_of F s x < F.none
      → (df ≡ false → Next F s x) → Visiting df x (stop_waiting df x s)
  visiting_begins true x s h timed next = record {
    tables = mark_fresh_tables F x s h.tables;
    rooted = h.labels.rooted;
    timed = timed;
    last = λ e. absurd (true≢false e);
  }
  visiting_begins false x s h timed next = let n = next refl in
      record {
        tables = settle_tables F x s h.tables;
        rooted = h.labels.rooted;
        timed = timed;
        last = λ e v k. ⊎_elim (λ q. rw q (omega arith)) (λ d. (h.order v x d n.pending timed).low)
            (settled_cases F s h.tables x n v k);
      }

  module _ (df : Bool) (x : ℕ) (r : State) (h : Visiting df x r) where
    -- after more moves of x, whose own cost stays
    module _ (moves : List Move) (goes : (m : Move) → Memᴰ m moves → Goes F page x m.target m.time) where
      abbrev after : State
      after = relax_all F ltb x moves r

      both : Spread F x r after × Rooted ok (cost_of F after) (pred_of after)
      both = relax_all_rooted ok x moves r goes h.tables h.timed h.rooted

      no_later_same : (v : ℕ) → cost_of F r v ≤ cost_of F r x → cost_of F after v ≡ cost_of F r v
      no_later_same v le = ((both.0.entry v).low le).time

      pub visiting_time : cost_of F after x ≡ cost_of F r x
      visiting_time = no_later_same x (omega arith)

      pub visiting_more : Visiting df x after
      visiting_more = record {
        tables = both.0.tables;
        rooted = both.1;
        timed = omega (arith, visiting_time, h.timed);
        last = λ e v k.
            let le = h.last e v (sym (both.0.settled v) ∙ k) in
            omega (arith, no_later_same v le, visiting_time);
      }

    -- one more move of x
    module _ (m : Move) (goes : Goes F page x m.target m.time) where
      abbrev t : State
      t = relax F ltb x m r

      abbrev sum : ℕ
      sum = cost_of F r x + cost m.time 1

      pub visiting_sum : sum < F.none
      visiting_sum = sum_below_none ok (cost_of F r) (pred_of r) h.rooted x m.target m.time h.timed goes

      relaxed : Relaxed F x m.target sum r t
      relaxed = relax_relaxed F x m r h.tables (ok.moves x m.target m.time goes).1

      same_done : (df : Bool) (v : ℕ) → is_fresh t v ≡ is_fresh r v → is_done df t v ≡ is_done df r v
      same_done true v e = e
      same_done false v e = relaxed.settled v

      same_waits : (v : ℕ) → cost_of F t v ≡ cost_of F r v → is_fresh t v ≡ is_fresh r v → waits df F t v ≡ waits df F r v
      same_waits v e f = rw (same_done df v f, e)

      -- a lowered station's moves are not relaxed at its new cost
      lowered_open : (d : Bool) → df ≡ d → sum < cost_of F r m.target → is_fresh t m.target ≡ false
          → is_done d t m.target ≡ false
      lowered_open true e lt f = f
      lowered_open false e lt f = relaxed.settled m.target ∙ false_of (is_settled r m.target)
          (λ k. omega (arith, h.last e m.target k))

      target_waits : Kind F x m.target sum r t
          → waits df F t m.target ≡ (ltb sum (cost_of F r m.target) || waits df F r m.target)
      target_waits (lowered lt a b c) = rw (lt-ltb sum (cost_of F r m.target) lt)
          (waits_if df F t m.target (lowered_open df refl lt c) (omega (arith, a, visiting_sum)))
      target_waits (tied e lt a b c) = rw (le-ltb sum (cost_of F r m.target) (omega arith))
          (same_waits m.target a c)
      target_waits (kept le lo e) = rw (le-ltb sum (cost_of F r m.target) le)
          (same_waits m.target e.time e.fresh)

      pub visiting_waits : (v : ℕ)
          → waits df F t v ≡ ((eqb v m.target && ltb sum (cost_of F r v)) || waits df F r v)
      visiting_waits v = dite (ℕ_discrete v m.target)
          (λ q. rw q (rw (eq-eqb m.target m.target refl) (target_waits relaxed.kind)))
          (λ ne. rw (ne_eqb v m.target ne)
          (same_waits v (relaxed.others v ne).time (relaxed.others v ne).fresh))
