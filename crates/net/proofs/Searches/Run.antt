-- A search under way, for any search whose steps settle the chosen station: what holds after any number of steps,
-- accepted or refused; which page refuses it; and that it ends, since every step settles one more station.
use Rattle.common.proofs.Ground.{◌≡◌, refl, sym, ◌∙◌, ap, Bool, true, false, true≢false, ◌⊎◌, inl, inr, ⊎_elim, List}
use Rattle.common.proofs.Ground.{[], ◌∷◌, ◌++◌, ℕ, suc, ◌≤◌, ◌<◌, arith, length}
use Rattle.net.specs.declared.Choice.{Choice}
use Rattle.net.specs.declared.Choice.TheVariants.{Station, Nobody}
use Rattle.net.specs.Net.{Page, good, bad, Frame, is_good, count}
use Rattle.net.specs.Search.{State, Halt, going, refused, cost_of, is_settled, settle, start, choose}
use Rattle.net.specs.Search.{iter, step_by}
use Rattle.net.proofs.Sound.{Sound}
use Rattle.net.proofs.LeastCosts.{FirstBad}
use Rattle.net.proofs.Basics.Iterate.{iter_keeps, iter_counts}
use Rattle.net.proofs.Basics.Count.{count-le, count_more, count_full}
use Rattle.net.proofs.Basics.Lists.{length-one_more}
use Rattle.net.proofs.Relaxing.Log.{halt_after}
use Rattle.net.proofs.Relaxing.Relax.{Tables}
use Rattle.net.proofs.Steps.Choose.{Next, NextIs, choose_next, choose_refused, step_idle, step_busy}
use Rattle.net.proofs.Steps.Invariant.{Inv, settled_own, settled_still}
use Rattle.net.proofs.Steps.Visits.{Settles, Settling}
use Rattle.net.proofs.Searches.Walks.{first_bad}
use Rattle.net.proofs.Searches.Start.{start_tables, start_inv}

module _ {F : Frame} {page : ℕ → Page} {source : ℕ} (ok : Sound F page source) where
  pub settled_more : (s : State) → Tables F s → (u : ℕ) → Next F s u → (t : State)
      → ((x : ℕ) → is_settled t x ≡ is_settled (settle u s) x)
      → count (is_settled s) F.size < count (is_settled t) F.size
  settled_more s z u n t same = count_more (is_settled s) (is_settled t) F.size
      (λ x l e. same x ∙ settled_still F s z u n x e) u n.small n.pending (same u ∙ settled_own F s z u n)

  -- what a state says that a bad page ended
  abbrev pub Told : State → Type 0
  Told s = (number p offset : ℕ) → s.halt ≡ refused number p offset
      → FirstBad F page source number p offset × ((before : List ℕ) × (s.pages ≡ before ++ (p ∷ [])))

  going_told : (s : State) → s.halt ≡ going → Told s
  going_told s g number p offset e = absurd (let z : ◌≡◌ {A = ℕ} 0 1 = cc in omega arith)

  module _ (relaxed : State → ℕ → Bool) where
    pub record Reached (s : State) : Type 0 where
      pub inv : s.halt ≡ going → Inv ok relaxed s
      pub tables : Tables F s
      pub told : Told s
      pub short : length s.pages ≤ count (is_settled s) F.size

    pub reached-start : ((x : ℕ) → relaxed (start F source) x ≡ false) → Reached (start F source)
    unfolding start
    reached-start none = record {
      inv = λ e. start_inv ok relaxed none;
      tables = start_tables ok;
      told = going_told (start F source) refl;
      short = omega arith;
    }

    -- whoever is chosen is next, and the search goes on
    pub chosen_next : (s : State) → Reached s → (u : ℕ) → choose F s ≡ Station u → (s.halt ≡ going) × Next F s u
    chosen_next s r u e = by_halt s.halt refl
      where
        by_halt : (h : Halt) → s.halt ≡ h → (s.halt ≡ going) × Next F s u
        by_halt going g = (g, rw e at (choose_next F s r.tables g))
        by_halt (refused number p offset) g =
            let f = choose_refused F s number p offset g in
            absurd (let z : ◌≡◌ {A = ℕ} 0 1 = cc in omega arith)

    module _ (u : ℕ) (s t : State) (g : s.halt ≡ going) (i : Inv ok relaxed s) (n : Next F s u)
        (step : Settles ok relaxed u s t) where
      abbrev p : ℕ
      p = F.page_of u

      bad_told : (content : Page) → page p ≡ content → t.halt ≡ halt_after content p s.halt
          → (t.pages ≡ s.pages ++ (p ∷ [])) ⊎ ((t.pages ≡ s.pages) × (is_good content ≡ true)) → Told t
      bad_told (good moves) e h l = going_told t (h ∙ g)
      bad_told (bad number offset) e h (inr l) = absurd (true≢false (sym l.1))
      bad_told (bad number offset) e h (inl l) = λ number' p' offset' h'.
          let en : number ≡ number' = cc in
          let ep : p ≡ p' = cc in
          let eo : offset ≡ offset' = cc in (
            record {
              station = u;
              held = cost_of F s u;
              walk = (i.labels.rooted.root u n.timed).walk;
              on = ep;
              why = rw (← ep, ← en, ← eo) e;
              first = first_bad ok relaxed s i u n;
            },
            (s.pages, l ∙ ap (λ q. s.pages ++ (q ∷ [])) ep),
          )

      one_more : (t.pages ≡ s.pages ++ (p ∷ [])) ⊎ ((t.pages ≡ s.pages) × (is_good (page p) ≡ true))
          → length t.pages ≤ suc (length s.pages)
      one_more (inl e) = rw e (omega (arith, length-one_more s.pages p))
      one_more (inr e) = rw e.0 (omega arith)

      reached_step : Reached s → Reached t
      reached_step r = record {
        inv = step.inv;
        tables = step.tables;
        told = bad_told (page p) refl step.halt step.pages;
        short = omega (arith, r.short, one_more step.pages, settled_more s i.tables u n t step.settled);
      }

    module _ (visit_of : ℕ → State → State) (settling : Settling ok relaxed visit_of) where
      abbrev pub step : State → State
      step = step_by F visit_of

      -- a step finds nobody and changes nothing, or settles the station found
      pub step_cases : (Q : State → Type 0) (s : State) → Reached s → (choose F s ≡ Nobody → Q s)
          → ((u : ℕ) → choose F s ≡ Station u → s.halt ≡ going → Inv ok relaxed s → Next F s u
          → Settles ok relaxed u s (visit_of u s) → Q (visit_of u s)) → Q (step s)
      step_cases Q s r idle busy = by_halt s.halt refl
        where
          by_choice : s.halt ≡ going → Inv ok relaxed s → (c : Choice) → choose F s ≡ c → NextIs F s c → Q (step s)
          by_choice g i Nobody e n = rw (step_idle F visit_of s e) (idle e)
          by_choice g i (Station u) e n = rw (step_busy F visit_of s u e) (busy u e g i n (settling u s i g n))

          by_halt : (h : Halt) → s.halt ≡ h → Q (step s)
          by_halt going e = by_choice e (r.inv e) (choose F s) refl (choose_next F s r.tables e)
          by_halt (refused number p offset) e =
              let none = choose_refused F s number p offset e in
              rw (step_idle F visit_of s none) (idle none)

      pub step_reached : (s : State) → Reached s → Reached (step s)
      step_reached s r = step_cases Reached s r (λ e. r) (λ u e g i n k. reached_step u s (visit_of u s) g i n k r)

      pub run_reached : (n : ℕ) (s : State) → Reached s → Reached (iter step n s)
      run_reached = iter_keeps Reached step step_reached

      -- after m steps m stations are settled, or nobody is left
      record Far (m : ℕ) (s : State) : Type 0 where
        reached : Reached s
        stage : (m ≤ count (is_settled s) F.size) ⊎ (choose F s ≡ Nobody)

      far_step : (m : ℕ) (s : State) → Far m s → Far (suc m) (step s)
      far_step m s f = step_cases (Far (suc m)) s f.reached
          (λ e. record { reached = f.reached; stage = inr e })
          (λ u e g i n k. record {
            reached = reached_step u s (visit_of u s) g i n k f.reached;
            stage = ⊎_elim
                (λ le. inl (omega (arith, settled_more s i.tables u n (visit_of u s) k.settled)))
                (λ q. absurd (let z : ◌≡◌ {A = ℕ} 0 1 = cc in omega arith))
                f.stage;
          })

      far_ends : (s : State) → Far F.size s → choose F s ≡ Nobody
      far_ends s f = ⊎_elim (λ le. by_halt le s.halt refl) (λ e. e) f.stage
        where
          by_choice : F.size ≤ count (is_settled s) F.size → (c : Choice) → choose F s ≡ c → NextIs F s c
              → choose F s ≡ Nobody
          by_choice le Nobody e n = e
          by_choice le (Station u) e n =
              let all = count_full (is_settled s) (λ x. true) F.size (λ x l p. refl)
              (omega (arith, count-le (λ x. true) F.size)) u n.small refl in
              absurd (true≢false (sym all ∙ n.pending))

          by_halt : F.size ≤ count (is_settled s) F.size → (h : Halt) → s.halt ≡ h → choose F s ≡ Nobody
          by_halt le going e = by_choice le (choose F s) refl (choose_next F s f.reached.tables e)
          by_halt le (refused number p offset) e = choose_refused F s number p offset e

      -- The search ends within as many steps as there are stations.
      pub run_ends : (s : State) → Reached s → choose F (iter step F.size s) ≡ Nobody
      run_ends s r = far_ends (iter step F.size s)
          (iter_counts Far step far_step F.size s (record { reached = r; stage = inl (omega arith) }))
