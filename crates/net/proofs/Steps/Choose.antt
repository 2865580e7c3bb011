-- Whom a search chooses to settle, and whom the page loop chooses to relax, said with costs and flags in place of
-- tests. Both from what `least` finds; stations without a time need not be told apart from numbers past the tables.
use Rattle.common.proofs.Ground.{◌≡◌, sym, ◌∙◌, ap, Bool, true, false, true≢false, ◌≢◌, ⊎_elim, dite, List, ℕ}
use Rattle.common.proofs.Ground.{◌≤◌, ◌<◌, arith, ℕ_discrete, lt-ltb, le-ltb, eq-eqb, ne_eqb}
use Rattle.common.proofs.Cases.{le-or-lt}
use Rattle.net.specs.declared.Choice.{Choice}
use Rattle.net.specs.declared.Choice.TheVariants.{Station, Nobody}
use Rattle.net.specs.Net.{Move, Frame}
use Rattle.net.specs.Search.{State, Halt, going, refused, cost_of, is_settled, is_fresh, choose_at, choose, choose_on}
use Rattle.net.specs.Search.{on_choice, visit, work_turn, step_by}
use Rattle.net.proofs.Basics.Tests.{and_none, false_of}
use Rattle.net.proofs.Basics.Least.{Before, LeastIs, least-is}
use Rattle.net.proofs.Relaxing.Relax.{Tables}
use Rattle.net.proofs.Relaxing.Labels.{timed_inside}

-- u is the station to settle next.
pub record Next (F : Frame) (s : State) (u : ℕ) : Type 0 where
  pub small : u < F.size
  pub pending : is_settled s u ≡ false
  pub timed : cost_of F s u < F.none
  pub first : (x : ℕ) → is_settled s x ≡ false → cost_of F s x < F.none → Before (cost_of F s) u x

abbrev pub NextIs : Frame → State → Choice → Type 0
NextIs F s Nobody = (x : ℕ) → is_settled s x ≡ false → cost_of F s x < F.none → ⊥
NextIs F s (Station u) = Next F s u

module _ (F : Frame) (s : State) (z : Tables F s) where
  -- the least by any test that just the unsettled stations with a time pass
  least_next : (test : ℕ → Bool) → ((x : ℕ) → is_settled s x ≡ false → cost_of F s x < F.none → test x ≡ true)
      → ((x : ℕ) → is_settled s x ≡ true → test x ≡ false) → ((x : ℕ) → F.none ≤ cost_of F s x → test x ≡ false)
      → (c : Choice) → LeastIs (cost_of F s) test F.size c → NextIs F s c
  least_next test passes settled untimed Nobody l = λ x e h. true≢false
      (sym (passes x e h) ∙ l x (timed_inside F s z x h))
  least_next test passes settled untimed (Station u) l = record {
    small = l.inside;
    pending = false_of (is_settled s u) (λ e. true≢false (sym l.passes ∙ settled u e));
    timed = ⊎_elim (λ far. absurd (true≢false (sym l.passes ∙ untimed u far))) (λ near. near)
        (le-or-lt F.none (cost_of F s u));
    first = λ x e h. l.first x (timed_inside F s z x h) (passes x e h);
  }

  pub choose_next : s.halt ≡ going → NextIs F s (choose F s)
  unfolding choose
  choose_next = by_halt s.halt
    where
      by_halt : (h : Halt) → h ≡ going → NextIs F s (choose_at F h s)
      by_halt going e = least_next _
          (λ x f h. simp (f, lt-ltb (cost_of F s x) F.none h))
          (λ x f. rw f)
          (λ x far. simp (le-ltb (cost_of F s x) F.none far, and_none))
          (choose_at F going s) (least-is (cost_of F s) _ F.size)
      by_halt (refused number p offset) e = absurd (let n : ◌≡◌ {A = ℕ} 0 1 = cc in omega arith)

-- a search that a bad page ended chooses nobody
pub choose_refused : (F : Frame) (s : State) (number p offset : ℕ) → s.halt ≡ refused number p offset
    → choose F s ≡ Nobody
unfolding choose
choose_refused F s number p offset e = ap (λ h. choose_at F h s) e

-- u is the station of page p whose moves are to be relaxed next.
pub record NextOn (F : Frame) (p : ℕ) (s : State) (u : ℕ) : Type 0 where
  pub small : u < F.size
  pub on : F.page_of u ≡ p
  pub stale : is_fresh s u ≡ false
  pub timed : cost_of F s u < F.none
  pub first : (x : ℕ) → F.page_of x ≡ p → is_fresh s x ≡ false → cost_of F s x < F.none → Before (cost_of F s) u x

abbrev pub NextOnIs : Frame → ℕ → State → Choice → Type 0
NextOnIs F p s Nobody = (x : ℕ) → F.page_of x ≡ p → is_fresh s x ≡ false → cost_of F s x < F.none → ⊥
NextOnIs F p s (Station u) = NextOn F p s u

module _ (F : Frame) (p : ℕ) (s : State) (z : Tables F s) where
  -- the least by any test that just the page's stale stations with a time pass
  least-next_on : (test : ℕ → Bool)
      → ((x : ℕ) → F.page_of x ≡ p → is_fresh s x ≡ false → cost_of F s x < F.none → test x ≡ true)
      → ((x : ℕ) → F.page_of x ≢ p → test x ≡ false) → ((x : ℕ) → is_fresh s x ≡ true → test x ≡ false)
      → ((x : ℕ) → F.none ≤ cost_of F s x → test x ≡ false)
      → (c : Choice) → LeastIs (cost_of F s) test F.size c → NextOnIs F p s c
  least-next_on test passes elsewhere fresh untimed Nobody l = λ x q e h. true≢false
      (sym (passes x q e h) ∙ l x (timed_inside F s z x h))
  least-next_on test passes elsewhere fresh untimed (Station u) l = record {
    small = l.inside;
    on = dite (ℕ_discrete (F.page_of u) p) (λ q. q) (λ ne. absurd (true≢false (sym l.passes ∙ elsewhere u ne)));
    stale = false_of (is_fresh s u) (λ e. true≢false (sym l.passes ∙ fresh u e));
    timed = ⊎_elim (λ far. absurd (true≢false (sym l.passes ∙ untimed u far))) (λ near. near)
        (le-or-lt F.none (cost_of F s u));
    first = λ x q e h. l.first x (timed_inside F s z x h) (passes x q e h);
  }

  pub choose_on_next : NextOnIs F p s (choose_on F p s)
  unfolding choose_on
  choose_on_next = least-next_on _
      (λ x q e h. simp (eq-eqb (F.page_of x) p q, e, lt-ltb (cost_of F s x) F.none h))
      (λ x ne. rw (ne_eqb (F.page_of x) p ne))
      (λ x e. simp (e, and_none))
      (λ x far. simp (le-ltb (cost_of F s x) F.none far, and_none))
      (choose_on F p s) (least-is (cost_of F s) _ F.size)

-- A step of either search, and a turn of the page loop, by whom it finds.
module _ (F : Frame) (visit_of : ℕ → State → State) (s : State) where
  pub step_idle : choose F s ≡ Nobody → step_by F visit_of s ≡ s
  unfolding step_by
  step_idle e = ap (λ c. on_choice visit_of c s) e

  pub step_busy : (u : ℕ) → choose F s ≡ Station u → step_by F visit_of s ≡ visit_of u s
  unfolding step_by
  step_busy u e = ap (λ c. on_choice visit_of c s) e

module _ (F : Frame) (less : ℕ → ℕ → Bool) (p : ℕ) (moves : ℕ → List Move) (s : State) where
  pub turn_idle : choose_on F p s ≡ Nobody → work_turn F less p moves s ≡ s
  unfolding work_turn
  turn_idle e = ap (λ c. on_choice (visit F less moves) c s) e

  pub turn_busy : (u : ℕ) → choose_on F p s ≡ Station u → work_turn F less p moves s ≡ visit F less moves u s
  unfolding work_turn
  turn_busy u e = ap (λ c. on_choice (visit F less moves) c s) e
