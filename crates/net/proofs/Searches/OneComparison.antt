-- "v has no time, or sum is less" and the one comparison "sum is less" are the same: no sum that relaxing forms
-- reaches none, at any relaxed move of either search, in the page loop too. So the searches by the letter of
-- document 01 equal those with the one comparison, of which all other laws are proved.
use Rattle.common.proofs.Ground.{◌≡◌, refl, sym, ◌∙◌, ap, Bool, true, false, not, ◌||◌, List, [], ◌∷◌, Memᴰ}
use Rattle.common.proofs.Ground.{Memᴰ-head, Memᴰ-tail, ℕ, ◌+◌, ◌<◌, arith, ltb, ltb-false, lt-ltb}
use Rattle.net.specs.declared.Choice.{Choice}
use Rattle.net.specs.declared.Choice.TheVariants.{Station, Nobody}
use Rattle.common.specs.Costs.{cost}
use Rattle.net.specs.Net.{Move, Page, good, bad, Frame, Goes}
use Rattle.net.specs.Search.{State, cost_of, pred_of, is_fresh, is_settled, settle, with_page, mark_fresh, start}
use Rattle.net.specs.Search.{on_choice, iter, on_page, read_for, relax, relax_all, visit, choose_on, work_turn}
use Rattle.net.specs.Search.{work_through, plain_visit, df_visit, step_by, none_or_less}
use Rattle.net.proofs.Sound.{Sound}
use Rattle.net.proofs.Basics.Iterate.{iter_agrees}
use Rattle.net.proofs.Relaxing.Log.{plain_work, df_work, df_fresh, df_stale}
use Rattle.net.proofs.Relaxing.Relax.{Tables, Fits, relax_spread}
use Rattle.net.proofs.Relaxing.Labels.{Rooted, sum_below_none, goes_fits}
use Rattle.net.proofs.Steps.Choose.{Next, NextOnIs, choose_on_next, step_idle, step_busy}
use Rattle.net.proofs.Steps.Invariant.{Inv, settle_tables}
use Rattle.net.proofs.Steps.PageLoop.{Ready, visited, turn_cases, mark_fresh_tables}
use Rattle.net.proofs.Steps.Visits.{Settling, ready_u, visited_u}
use Rattle.net.proofs.Searches.Run.{Reached, step_cases, step_reached}

pub none_or_less_is_less : (F : Frame) (sum old : ℕ) → sum < F.none → none_or_less F sum old ≡ ltb sum old
none_or_less_is_less F sum old h = by_test (ltb old F.none) refl
  where
    by_test : (b : Bool) → ltb old F.none ≡ b → (not b || ltb sum old) ≡ ltb sum old
    by_test true e = refl
    by_test false e = sym (lt-ltb sum old (omega (arith, ltb-false old F.none e)))

module _ (F : Frame) where
  relax-one : (u : ℕ) (m : Move) (s : State) → cost_of F s u + cost m.time 1 < F.none
      → relax F (none_or_less F) u m s ≡ relax F ltb u m s
  unfolding relax
  relax-one u m s h = rw (none_or_less_is_less F (cost_of F s u + cost m.time 1) (cost_of F s m.target) h)

  relax_all-one : (u : ℕ) (moves : List Move) (s : State) → Tables F s → ((m : Move) → Memᴰ m moves → Fits F m)
      → ((m : Move) → Memᴰ m moves → cost_of F s u + cost m.time 1 < F.none)
      → relax_all F (none_or_less F) u moves s ≡ relax_all F ltb u moves s
  unfolding relax_all
  relax_all-one u [] s z fits room = refl
  relax_all-one u (m ∷ moves) s z fits room =
      let p = relax_spread F u m s (fits m (Memᴰ-head refl)) z in
      ap (relax_all F (none_or_less F) u moves) (relax-one u m s (room m (Memᴰ-head refl)))
      ∙ relax_all-one u moves (relax F ltb u m s) p.tables (λ n k. fits n (Memᴰ-tail k))
      (λ n k. omega (arith, ((p.entry u).low (omega arith)).time, room n (Memᴰ-tail k)))

module _ {F : Frame} {page : ℕ → Page} {source : ℕ} (ok : Sound F page source) where
  -- all moves of u, whose page p is good
  module _ (p : ℕ) (moves : ℕ → List Move) (is : page p ≡ good moves) where
    moves_one : (u : ℕ) (s : State) → F.page_of u ≡ p → Tables F s → cost_of F s u < F.none
        → Rooted ok (cost_of F s) (pred_of s)
        → relax_all F (none_or_less F) u (moves u) s ≡ relax_all F ltb u (moves u) s
    moves_one u s on z h r = relax_all-one F u (moves u) s z (goes_fits ok u (moves u) goes)
        (λ m k. sum_below_none ok (cost_of F s) (pred_of s) r u m.target m.time h (goes m k))
      where
        goes : (m : Move) → Memᴰ m (moves u) → Goes F page u m.target m.time
        goes m k = rw (on, is) k

    pub visit-one : (u : ℕ) (s : State) → Ready ok s → F.page_of u ≡ p → cost_of F s u < F.none
        → visit F (none_or_less F) moves u s ≡ visit F ltb moves u s
    unfolding visit
    visit-one u s r on h = moves_one u (mark_fresh u s) on (mark_fresh_tables F u s r.tables) h r.labels.rooted

    turn_one : (r : State) → Ready ok r → work_turn F ltb p moves r ≡ work_turn F (none_or_less F) p moves r
    unfolding work_turn
    turn_one r ready = by_choice (choose_on F p r) (choose_on_next F p r ready.tables)
      where
        by_choice : (c : Choice) → NextOnIs F p r c
            → on_choice (visit F ltb moves) c r ≡ on_choice (visit F (none_or_less F) moves) c r
        by_choice Nobody n = refl
        by_choice (Station x) n = sym (visit-one x r ready n.on n.timed)

    pub turns_one : (n : ℕ) (s : State) → Ready ok s
        → iter (work_turn F (none_or_less F) p moves) n s ≡ iter (work_turn F ltb p moves) n s
    turns_one n s ready = sym (iter_agrees (Ready ok) (work_turn F ltb p moves) (work_turn F (none_or_less F) p moves)
        (λ r k. turn_cases ok p moves is (Ready ok) r k.tables (λ e. k)
        (λ x e n. (visited ok p moves is x r k n.small n.timed n.on).ready))
        turn_one n s ready)

    pub loop-one : (s : State) → Ready ok s → work_through F (none_or_less F) p moves s ≡ work_through F ltb p moves s
    unfolding work_through
    loop-one = turns_one F.size

  -- a page read for two purposes that agree where it is good
  read_one : (u : ℕ) (s : State) (work other : (ℕ → List Move) → State → State)
      → ((moves : ℕ → List Move) → page (F.page_of u) ≡ good moves
      → work moves (with_page (F.page_of u) (settle u s)) ≡ other moves (with_page (F.page_of u) (settle u s)))
      → read_for F page u work s ≡ read_for F page u other s
  unfolding read_for
  read_one u s work other agree = by_content (page (F.page_of u)) refl
    where
      by_content : (content : Page) → page (F.page_of u) ≡ content
          → on_page work (F.page_of u) content (with_page (F.page_of u) (settle u s))
          ≡ on_page other (F.page_of u) content (with_page (F.page_of u) (settle u s))
      by_content (good moves) e = agree moves e
      by_content (bad number offset) e = refl

  pub plain_visit-one : (u : ℕ) (s : State) → Inv ok is_settled s → Next F s u
      → plain_visit F (none_or_less F) page u s ≡ plain_visit F ltb page u s
  unfolding plain_visit
  plain_visit-one u s i n = read_one u s (plain_work F (none_or_less F) u) (plain_work F ltb u)
      (λ moves e. moves_one (F.page_of u) moves e u (with_page (F.page_of u) (settle u s)) refl
      (settle_tables F u s i.tables) n.timed i.labels.rooted)

  pub df_visit-one : (u : ℕ) (s : State) → Inv ok is_fresh s → Next F s u
      → df_visit F (none_or_less F) page u s ≡ df_visit F ltb page u s
  df_visit-one u s i n = by_fresh (is_fresh s u) refl
    where
      s₁ : State
      s₁ = with_page (F.page_of u) (settle u s)

      work_one : (moves : ℕ → List Move) → page (F.page_of u) ≡ good moves
          → df_work F (none_or_less F) u moves s₁ ≡ df_work F ltb u moves s₁
      work_one moves e =
          ap (work_through F (none_or_less F) (F.page_of u) moves)
          (visit-one (F.page_of u) moves e u s₁ (ready_u ok u s i n) refl n.timed)
          ∙ loop-one (F.page_of u) moves e (visit F ltb moves u s₁) (visited_u ok u s i n moves e).ready

      by_fresh : (b : Bool) → is_fresh s u ≡ b → df_visit F (none_or_less F) page u s ≡ df_visit F ltb page u s
      by_fresh true f = df_fresh F (none_or_less F) page u s f ∙ sym (df_fresh F ltb page u s f)
      by_fresh false f = df_stale F (none_or_less F) page u s f ∙ read_one u s (df_work F (none_or_less F) u)
          (df_work F ltb u) work_one
          ∙ sym (df_stale F ltb page u s f)

  -- any number of steps, of two searches whose steps agree wherever the first one comes
  pub run_one : (relaxed : State → ℕ → Bool) (one letter : ℕ → State → State) → Settling ok relaxed one
      → Reached ok relaxed (start F source)
      → ((u : ℕ) (s : State) → Inv ok relaxed s → Next F s u → letter u s ≡ one u s)
      → (n : ℕ) → iter (step_by F letter) n (start F source) ≡ iter (step_by F one) n (start F source)
  run_one relaxed one letter settling r agree n = sym (iter_agrees (Reached ok relaxed) (step_by F one) (step_by F letter)
      (step_reached ok relaxed one settling) steps n (start F source) r)
    where
      steps : (s : State) → Reached ok relaxed s → step_by F one s ≡ step_by F letter s
      steps s k = step_cases ok relaxed one settling (λ t. t ≡ step_by F letter s) s k
          (λ e. sym (step_idle F letter s e))
          (λ u e g i n c. sym (agree u s i n) ∙ sym (step_busy F letter s u e))
