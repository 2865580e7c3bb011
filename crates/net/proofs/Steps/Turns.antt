-- What holds in a run (specs/Run) between references and between the turns of the page in hand, for either search. In
-- the DF search any visits keep it; in the plain search the one visit is that of the station to settle next. So it
-- holds after every number of references, whether or not a bad page ended the search. And how a turn ends.
use Rattle.common.proofs.Ground.{◌≡◌, refl, sym, ◌∙◌, ap, subst, Bool, true, false, List, [], ◌∷◌, ◌++◌, ℕ, zero, suc}
use Rattle.common.proofs.Ground.{◌+◌, ◌-◌, ◌≤◌, arith, ltb, eqb}
use Rattle.net.specs.declared.Choice.{Choice}
use Rattle.net.specs.declared.Choice.TheVariants.{Station, Nobody}
use Rattle.net.specs.Net.{Move, Page, good, bad, Frame, count}
use Rattle.net.specs.Search.{State, Halt, going, with_page, cost_of, pred_of, is_settled, on_choice}
use Rattle.net.specs.Search.{iter, on_page, read_for, visit, choose_on, work_turn, plain_visit}
use Rattle.net.specs.Run.{stop_waiting, turn_limit, first_waiting, first_on, visit_of, turn_of, page_work}
use Rattle.net.specs.Run.{reference, step_run}
use Rattle.net.proofs.Sound.{Sound}
use Rattle.net.proofs.Basics.Iterate.{iter_keeps, iter_stop}
use Rattle.net.proofs.Basics.Count.{count-le}
use Rattle.net.proofs.Relaxing.Log.{log_of, plain_quiet}
use Rattle.net.proofs.Relaxing.Relax.{Tables}
use Rattle.net.proofs.Relaxing.Labels.{Rooted}
use Rattle.net.proofs.Steps.Choose.{Next}
use Rattle.net.proofs.Steps.Waiting.{listing, first_next, first_on_page}
use Rattle.net.proofs.Steps.Invariant.{Inv}
use Rattle.net.proofs.Steps.PageLoop.{Ready, stations_on, loop_keeps, loop_ends}
use Rattle.net.proofs.Steps.Visits.{plain_settling}

-- A turn, and a step of the run, by whom it finds.
module _ (df : Bool) (F : Frame) where
  module _ (p : ℕ) (moves : ℕ → List Move) (s : State) where
    pub turn_of_idle : first_on df F p s ≡ Nobody → turn_of df F p moves s ≡ s
    unfolding turn_of
    turn_of_idle e = ap (λ c. on_choice (visit_of df F moves) c s) e

    pub turn_of_busy : (x : ℕ) → first_on df F p s ≡ Station x → turn_of df F p moves s ≡ visit_of df F moves x s
    unfolding turn_of
    turn_of_busy x e = ap (λ c. on_choice (visit_of df F moves) c s) e

  module _ (page : ℕ → Page) where
    pub step_run_idle : (s : State) → first_waiting df F s ≡ Nobody → step_run df F page s ≡ s
    unfolding step_run
    step_run_idle s e = ap (λ c. on_choice (reference df F page) c s) e

    pub step_run_busy : (s : State) (u : ℕ) → first_waiting df F s ≡ Station u
        → step_run df F page s ≡ reference df F page u s
    unfolding step_run
    step_run_busy s u e = ap (λ c. on_choice (reference df F page) c s) e

-- List and halt: a visit leaves them alone, so that a reference lists its page and nothing else.
module _ (F : Frame) where
  visit_of_log : (df : Bool) (moves : ℕ → List Move) (u : ℕ) (s : State) → log_of (visit_of df F moves u s) ≡ log_of s
  unfolding visit_of
  visit_of_log true moves u s = plain_quiet F ltb u moves (stop_waiting true u s)
  visit_of_log false moves u s = plain_quiet F ltb u moves (stop_waiting false u s)

  module _ (df : Bool) where
    on_choice_log : (moves : ℕ → List Move) (c : Choice) (s : State)
        → log_of (on_choice (visit_of df F moves) c s) ≡ log_of s
    on_choice_log moves Nobody s = refl
    on_choice_log moves (Station u) s = visit_of_log df moves u s

    pub turns_log : (p : ℕ) (moves : ℕ → List Move) (m : ℕ) (s : State)
        → log_of (iter (turn_of df F p moves) m s) ≡ log_of s
    unfolding turn_of
    turns_log p moves m s = iter_keeps (λ t. log_of t ≡ log_of s) (turn_of df F p moves)
        (λ t e. on_choice_log moves (first_on df F p t) t ∙ e) m s refl

    pub reference_lists : (page : ℕ → Page) (u : ℕ) (s : State)
        → (reference df F page u s).pages ≡ s.pages ++ (F.page_of u ∷ [])
    unfolding reference page_work
    reference_lists page u s = by_content (page (F.page_of u))
      where
        by_content : (content : Page)
            → (on_page (page_work df F (F.page_of u)) (F.page_of u) content (with_page (F.page_of u) s)).pages
            ≡ s.pages ++ (F.page_of u ∷ [])
        by_content (good moves) =
            ap (λ l. l.pages) (turns_log (F.page_of u) moves (turn_limit df F) (with_page (F.page_of u) s))
        by_content (bad number offset) = refl

-- A turn of the DF run is one of the page loop by the letter.
pub turn_letter : (F : Frame) (p : ℕ) (moves : ℕ → List Move) → turn_of true F p moves ≡ work_turn F ltb p moves
unfolding turn_of visit_of first_on work_turn visit choose_on
turn_letter F p moves = refl

module _ {F : Frame} {page : ℕ → Page} {source : ℕ} (ok : Sound F page source) where
  -- what holds between references, and between turns
  abbrev pub Steady : Bool → State → Type 0
  Steady true s = Ready ok s
  Steady false s = Inv ok is_settled s

  pub steady_tables : (df : Bool) (s : State) → Steady df s → Tables F s
  steady_tables true s h = h.tables
  steady_tables false s h = h.tables

  pub steady_rooted : (df : Bool) (s : State) → Steady df s → Rooted ok (cost_of F s) (pred_of s)
  steady_rooted true s h = h.labels.rooted
  steady_rooted false s h = h.labels.rooted

  -- it does not depend on the list and the halt
  pub steady_listing : (pages : List ℕ) (halt : Halt) (df : Bool) (s : State) → Steady df s
      → Steady df (listing pages halt s)
  steady_listing pages halt true s h = record { tables = h.tables; labels = h.labels }
  steady_listing pages halt false s h =
      record { tables = h.tables; labels = h.labels; done = h.done; order = h.order }

  module _ (u : ℕ) (moves : ℕ → List Move) (is : page (F.page_of u) ≡ good moves) where
    -- in the plain search, the visit of the station to settle next
    plain_visit_steady : (s : State) → Inv ok is_settled s → s.halt ≡ going → Next F s u
        → Inv ok is_settled (visit_of false F moves u (with_page (F.page_of u) s))
    unfolding plain_visit read_for visit_of
    plain_visit_steady s i g n =
        let settles = plain_settling ok u s i g n in
        (rw is at settles.inv) (rw is at settles.halt ∙ g)

    abbrev p : ℕ
    p = F.page_of u

    -- after any number of turns that the page gets
    pub turns_steady : (df : Bool) (s : State) → Steady df s → first_waiting df F s ≡ Station u → (m : ℕ)
        → m ≤ turn_limit df F → Steady df (iter (turn_of df F p moves) m (with_page p s))
    unfolding first_on iter
    turns_steady true s h e m le = subst (λ turn. Ready ok (iter turn m (with_page p s))) (sym (turn_letter F p moves))
        (loop_keeps ok p moves is (λ t. Unit {0}) (λ t x k q o. tt) m (with_page p s) (steady_listing _ _ true s h) tt
        ).0
    turns_steady false s h e m le = by_turns m le
      where
        next : (s.halt ≡ going) × Next F s u
        next = first_next F s u h.tables e

        on_page_lem : first_on false F p (with_page p s) ≡ Station u
        on_page_lem = first_on_page false F s u e

        by_turns : (m : ℕ) → m ≤ 1 → Inv ok is_settled (iter (turn_of false F p moves) m (with_page p s))
        by_turns zero le = steady_listing _ _ false s h
        by_turns (suc zero) le = rw (turn_of_busy false F p moves (with_page p s) u on_page_lem)
            (plain_visit_steady s h next.0 next.1)
        by_turns (suc (suc m)) le = absurd (omega arith)

  -- a reference keeps it, whichever page it reads, and so a step
  reference_steady : (df : Bool) (u : ℕ) (s : State) → Steady df s → first_waiting df F s ≡ Station u
      → Steady df (reference df F page u s)
  unfolding reference page_work
  reference_steady df u s h e = by_content (page (F.page_of u)) refl
    where
      by_content : (content : Page) → page (F.page_of u) ≡ content
          → Steady df (on_page (page_work df F (F.page_of u)) (F.page_of u) content (with_page (F.page_of u) s))
      by_content (good moves) is = turns_steady u moves is df s h e (turn_limit df F) (omega arith)
      by_content (bad number offset) is = steady_listing _ _ df s h

  pub step_steady : (df : Bool) (s : State) → Steady df s → Steady df (step_run df F page s)
  step_steady df s h = by_choice (first_waiting df F s) refl
    where
      by_choice : (c : Choice) → first_waiting df F s ≡ c → Steady df (step_run df F page s)
      by_choice Nobody e = rw (step_run_idle df F page s e) h
      by_choice (Station u) e = rw (step_run_busy df F page s u e) (reference_steady df u s h e)

  -- In the DF search the page is worked through: its turns leave nobody waiting there.
  pub turns_work_through : (p : ℕ) (moves : ℕ → List Move) → page p ≡ good moves → (s : State) → Ready ok s
      → first_on true F p (iter (turn_of true F p moves) (turn_limit true F) s) ≡ Nobody
  unfolding first_on choose_on stations_on
  turns_work_through p moves is s h =
      let k = count (λ y. eqb (F.page_of y) p) F.size in
      let all : k + (suc F.size - k) ≡ suc F.size = omega (
        arith,
        count-le (λ y. eqb (F.page_of y) p) F.size,
      ) in
      let ends : choose_on F p (iter (turn_of true F p moves) k s) ≡ Nobody =
      rw (turn_letter F p moves) (loop_ends ok p moves is s h) in
      ap (first_on true F p) (rw all at (iter_stop (turn_of true F p moves) s k (suc F.size - k)
      (turn_of_idle true F p moves (iter (turn_of true F p moves) k s) ends))) ∙ ends
