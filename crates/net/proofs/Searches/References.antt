-- The run of references (specs/Run) is the search, but for the marks. Plain: step by step; only at a bad page the
-- search has settled the station and the run has not. DF: a step is one of three. Nobody is left, and then nobody
-- waits; or a fresh station is settled, which nothing but its flag shows; or the station chosen waits, and the step is
-- a reference for it. So N steps make at most N references, and leave nobody waiting.
use Rattle.common.proofs.Ground.{◌≡◌, refl, sym, ◌∙◌, ap, Bool, true, false, ℕ, zero, suc, ◌+◌, ◌-◌, ◌≤◌, arith, ltb}
use Rattle.net.specs.declared.Choice.{Choice}
use Rattle.net.specs.declared.Choice.TheVariants.{Station, Nobody}
use Rattle.net.specs.Net.{Page, good, bad, Frame}
use Rattle.net.specs.Search.{State, Halt, going, refused, with_page, settle, is_fresh, is_settled, start}
use Rattle.net.specs.Search.{on_page, read_for, iter, choose, plain_visit, df_visit}
use Rattle.net.specs.Run.{is_done, first_waiting, first_on, visit_of, page_work, reference, step_run, after_references}
use Rattle.net.specs.Run.{run_of, unmarked}
use Rattle.net.proofs.Sound.{Sound}
use Rattle.net.proofs.Basics.Iterate.{iter_keeps, iter_keeps_both, iter_last, iter_stop}
use Rattle.net.proofs.Relaxing.Log.{plain_work, df_fresh}
use Rattle.net.proofs.Steps.Choose.{Next, NextIs, choose_next, choose_refused, step_idle, step_busy}
use Rattle.net.proofs.Steps.Waiting.{nobody_refused, first_on_page}
use Rattle.net.proofs.Steps.Visits.{plain_settling, df_settling}
use Rattle.net.proofs.Steps.Unsettled.{unsettle, unsettle_settle, unsettle_start, unsettle_first}
use Rattle.net.proofs.Steps.Turns.{Steady, step_steady, step_run_idle, step_run_busy, turn_of_busy}
use Rattle.net.proofs.Steps.Reference.{nobody-waits, chosen_first, step_refers}
use Rattle.net.proofs.Searches.Start.{start_unsettled, start_stale, start_inv}
use Rattle.net.proofs.Searches.Run.{Reached, run_ends}
use Rattle.net.proofs.Searches.Together.{plain_step, df_step, plain_reached, df_reached}

module _ {F : Frame} {page : ℕ → Page} {source : ℕ} (ok : Sound F page source) where
  -- What holds after every number of references.
  start_steady : (df : Bool) → Steady ok df (start F source)
  start_steady true =
      let i = start_inv ok is_fresh (start_stale ok) in
      record { tables = i.tables; labels = i.labels }
  start_steady false = start_inv ok is_settled (start_unsettled ok)

  pub start_not_done : (df : Bool) (v : ℕ) → is_done df (start F source) v ≡ false
  start_not_done true = start_stale ok
  start_not_done false = start_unsettled ok

  pub run_steady : (df : Bool) (k : ℕ) → Steady ok df (after_references df F page source k)
  run_steady df k = iter_keeps (Steady ok df) (step_run df F page) (step_steady ok df) k (start F source)
      (start_steady df)

  -- The plain search s and its run t after as many steps: the same, but for the marks once a bad page ended both.
  record Alike (s t : State) : Type 0 where
    same : s.halt ≡ going → s ≡ t
    parts : unmarked s ≡ unmarked t

  same_alike : (s t : State) → s ≡ t → Alike s t
  same_alike s t e = record { same = λ g. e; parts = ap unmarked e }

  visit_alike : (s : State) (u : ℕ) → first_waiting false F s ≡ Station u
      → Alike (plain_visit F ltb page u s) (reference false F page u s)
  unfolding plain_visit read_for reference page_work iter first_on visit_of
  visit_alike s u e = by_content (page (F.page_of u))
    where
      by_content : (content : Page)
          → Alike (on_page (plain_work F ltb u) (F.page_of u) content (with_page (F.page_of u) (settle u s)))
          (on_page (page_work false F (F.page_of u)) (F.page_of u) content (with_page (F.page_of u) s))
      by_content (good moves) = same_alike _ _
          (sym (turn_of_busy false F (F.page_of u) moves (with_page (F.page_of u) s) u (first_on_page false F s u e)))
      by_content (bad number offset) = record {
        same = λ g. absurd (let z : ◌≡◌ {A = ℕ} 0 1 = cc in omega arith);
        parts = refl;
      }

  step_alike : (s t : State) → Alike s t → Alike (plain_step ok s) (step_run false F page t)
  unfolding choose first_waiting
  step_alike s t a = by_halt s.halt refl
    where
      by_choice : (c : Choice) → choose F s ≡ c → Alike (plain_step ok s) (step_run false F page s)
      by_choice Nobody e = rw (step_idle F (plain_visit F ltb page) s e, step_run_idle false F page s e)
          (same_alike s s refl)
      by_choice (Station u) e = rw (step_busy F (plain_visit F ltb page) s u e, step_run_busy false F page s u e)
          (visit_alike s u e)

      by_halt : (h : Halt) → s.halt ≡ h → Alike (plain_step ok s) (step_run false F page t)
      by_halt going g = rw (← (a.same g)) (by_choice (choose F s) refl)
      by_halt (refused number p offset) g =
          let g' : t.halt ≡ refused number p offset = sym (ap (λ r. r.halt) a.parts) ∙ g in
          rw (
            step_idle F (plain_visit F ltb page) s (choose_refused F s number p offset g),
            step_run_idle false F page t (nobody_refused false F t number p offset g'),
          ) a

  plain_alike : (n : ℕ) → Alike (iter (plain_step ok) n (start F source)) (after_references false F page source n)
  plain_alike n = iter_keeps_both Alike (plain_step ok) (step_run false F page) step_alike n (start F source)
      (start F source) (same_alike _ _ refl)

  plain_over : first_waiting false F (after_references false F page source F.size) ≡ Nobody
  unfolding choose first_waiting iter
  plain_over = by_halt last.halt refl
    where
      last : State
      last = iter (plain_step ok) F.size (start F source)

      run : State
      run = after_references false F page source F.size

      by_halt : (h : Halt) → last.halt ≡ h → first_waiting false F run ≡ Nobody
      by_halt going g = rw (← ((plain_alike F.size).same g))
          (run_ends ok is_settled (plain_visit F ltb page) (plain_settling ok) (start F source) (plain_reached ok 0))
      by_halt (refused number p offset) g = nobody_refused false F run number p offset
          (sym (ap (λ s. s.halt) (plain_alike F.size).parts) ∙ g)

  -- What a DF step is without settled flags.
  data Seen (s : State) : Type 0 where
    over : choose F s ≡ Nobody → first_waiting true F s ≡ Nobody → Seen s
    settles : (u : ℕ) → choose F s ≡ Station u → unsettle (df_step ok s) ≡ unsettle s → Seen s
    refers : (u : ℕ) → choose F s ≡ Station u → unsettle (df_step ok s) ≡ step_run true F page (unsettle s) → Seen s

  seen : (s : State) → Reached ok is_fresh s → Seen s
  seen s r = by_halt s.halt refl
    where
      by_fresh : (u : ℕ) → s.halt ≡ going → choose F s ≡ Station u → Next F s u → (b : Bool) → is_fresh s u ≡ b → Seen s
      by_fresh u g e n true f = settles u e
          (ap unsettle (step_busy F (df_visit F ltb page) s u e ∙ df_fresh F ltb page u s f) ∙ unsettle_settle u s)
      by_fresh u g e n false f = refers u e (ap unsettle (step_busy F (df_visit F ltb page) s u e)
          ∙ step_refers ok s (r.inv g) g u n f
          ∙ sym (step_run_busy true F page (unsettle s) u (unsettle_first F s ∙ chosen_first ok s (r.inv g) g u n f)))

      by_choice : s.halt ≡ going → (c : Choice) → choose F s ≡ c → NextIs F s c → Seen s
      by_choice g Nobody e n = over e (nobody-waits ok s (r.inv g) g n)
      by_choice g (Station u) e n = by_fresh u g e n (is_fresh s u) refl

      by_halt : (h : Halt) → s.halt ≡ h → Seen s
      by_halt going g = by_choice g (choose F s) refl (choose_next F s r.tables g)
      by_halt (refused number p offset) g =
          over (choose_refused F s number p offset g) (nobody_refused true F s number p offset g)

  abbrev df_at : ℕ → State
  df_at n = iter (df_step ok) n (start F source)

  abbrev run_at : ℕ → State
  run_at = after_references true F page source

  -- n steps make at most n references
  references_of : (n : ℕ) → (k : ℕ) × (k ≤ n) × (unsettle (df_at n) ≡ run_at k)
  unfolding iter
  references_of zero = (0, omega arith, unsettle_start F source)
  references_of (suc n) = by_seen (references_of n) (seen (df_at n) (df_reached ok n))
    where
      one-step : unsettle (df_at (suc n)) ≡ unsettle (df_step ok (df_at n))
      one-step = ap unsettle (iter_last (df_step ok) n (start F source))

      by_seen : (k : ℕ) × (k ≤ n) × (unsettle (df_at n) ≡ run_at k) → Seen (df_at n)
          → (k : ℕ) × (k ≤ suc n) × (unsettle (df_at (suc n)) ≡ run_at k)
      by_seen (k, le, e) (over c f) =
          (k, omega arith, one-step ∙ ap unsettle (step_idle F (df_visit F ltb page) (df_at n) c) ∙ e)
      by_seen (k, le, e) (settles u c same) = (k, omega arith, one-step ∙ same ∙ e)
      by_seen (k, le, e) (refers u c same) = (
        suc k,
        omega arith,
        one-step ∙ same ∙ ap (step_run true F page) e ∙ sym (iter_last (step_run true F page) k (start F source)),
      )

  df_none_waits : first_waiting true F (df_at F.size) ≡ Nobody
  unfolding iter
  df_none_waits = by_seen (seen (df_at F.size) (df_reached ok F.size))
    where
      ends : choose F (df_at F.size) ≡ Nobody
      ends = run_ends ok is_fresh (df_visit F ltb page) (df_settling ok) (start F source) (df_reached ok 0)

      by_seen : Seen (df_at F.size) → first_waiting true F (df_at F.size) ≡ Nobody
      by_seen (over c f) = f
      by_seen (settles u c same) = absurd (let z : ◌≡◌ {A = ℕ} 0 1 = cc ends in omega arith)
      by_seen (refers u c same) = absurd (let z : ◌≡◌ {A = ℕ} 0 1 = cc ends in omega arith)

  df_unsettled : unsettle (df_at F.size) ≡ run_at F.size
  df_unsettled =
      let (k, le, e) = references_of F.size in
      let all : k + (F.size - k) ≡ F.size = omega arith in
      e ∙ sym (rw all at (iter_stop (step_run true F page) (start F source) k (F.size - k)
      (step_run_idle true F page (run_at k) (rw e at (unsettle_first F (df_at F.size) ∙ df_none_waits)))))

  -- Both: nobody waits at the run's end, and it is the search's, with the one comparison.
  pub run_over : (df : Bool) → first_waiting df F (run_of df F page source) ≡ Nobody
  unfolding run_of
  run_over true = ap (first_waiting true F) (sym df_unsettled) ∙ unsettle_first F (df_at F.size) ∙ df_none_waits
  run_over false = plain_over

  pub df_run : unmarked (df_at F.size) ≡ unmarked (run_of true F page source)
  unfolding run_of
  df_run = ap unmarked df_unsettled

  pub plain-run : unmarked (iter (plain_step ok) F.size (start F source)) ≡ unmarked (run_of false F page source)
  unfolding run_of
  plain-run = (plain_alike F.size).parts
