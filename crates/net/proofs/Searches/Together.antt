-- Both searches side by side, step for step: they choose alike, settle alike and are refused alike, and the DF list
-- is the plain list with the entries left out at which the station was fresh. Whoever a search chooses has its
-- least cost, and stations are chosen in rising order of least cost and number.
use Rattle.common.proofs.Ground.{◌≡◌, refl, sym, ◌∙◌, ap, Bool, true, false, true≢false, ⊎_elim, dite, Sublistᴰ}
use Rattle.common.proofs.Ground.{Sublistᴰ-slnil, ℕ, suc, ◌+◌, ◌-◌, ◌≤◌, ◌<◌, arith, ℕ_discrete, ltb}
use Rattle.net.specs.declared.Choice.TheVariants.{Station}
use Rattle.net.specs.Net.{Page, Frame}
use Rattle.net.specs.Search.{State, Halt, going, refused, cost_of, is_settled, is_fresh, settle, start, choose, iter}
use Rattle.net.specs.Search.{plain_visit, df_visit, step_by}
use Rattle.net.proofs.Sound.{Sound}
use Rattle.net.proofs.LeastCosts.{LeastCost}
use Rattle.net.proofs.Basics.Tests.{below_or_last}
use Rattle.net.proofs.Basics.Iterate.{iter_keeps, iter_keeps_both, iter_last, iter_add}
use Rattle.net.proofs.Basics.Lists.{part_left_out, part_kept}
use Rattle.net.proofs.Basics.Marks.{settle_other}
use Rattle.net.proofs.Relaxing.Log.{halt_after, plain_lists}
use Rattle.net.proofs.Steps.Choose.{Next, choose_next, choose_refused}
use Rattle.net.proofs.Steps.Invariant.{settled_own, settled_still}
use Rattle.net.proofs.Steps.Visits.{Settles, Settling, plain_settling, df_settling}
use Rattle.net.proofs.Searches.Walks.{least-cost-one, next_least, settled_least, same_next}
use Rattle.net.proofs.Searches.Start.{start_unsettled, start_stale}
use Rattle.net.proofs.Searches.Run.{Reached, reached-start, chosen_next, step_cases, step_reached, run_reached}

module _ {F : Frame} {page : ℕ → Page} {source : ℕ} (ok : Sound F page source) where
  abbrev pub plain_step : State → State
  plain_step = step_by F (plain_visit F ltb page)

  abbrev pub df_step : State → State
  df_step = step_by F (df_visit F ltb page)

  pub plain_reached : (n : ℕ) → Reached ok is_settled (iter plain_step n (start F source))
  plain_reached n = run_reached ok is_settled (plain_visit F ltb page) (plain_settling ok) n (start F source)
      (reached-start ok is_settled (start_unsettled ok))

  pub df_reached : (n : ℕ) → Reached ok is_fresh (iter df_step n (start F source))
  df_reached n = run_reached ok is_fresh (df_visit F ltb page) (df_settling ok) n (start F source)
      (reached-start ok is_fresh (start_stale ok))

  -- s of the plain search and t of the DF search, after the same number of steps
  pub record Together (s t : State) : Type 0 where
    pub plain : Reached ok is_settled s
    pub df : Reached ok is_fresh t
    pub settled : (x : ℕ) → is_settled t x ≡ is_settled s x
    pub halt : s.halt ≡ t.halt
    pub part : Sublistᴰ t.pages s.pages

  pub together_choose : (s t : State) → Together s t → choose F s ≡ choose F t
  together_choose s t m = by_halt s.halt refl
    where
      by_halt : (h : Halt) → s.halt ≡ h → choose F s ≡ choose F t
      by_halt going e =
          let e' : t.halt ≡ going = sym m.halt ∙ e in
          same_next ok is_settled is_fresh s t (m.plain.inv e) (m.df.inv e') m.settled (choose F s) (choose F t)
          (choose_next F s m.plain.tables e) (choose_next F t m.df.tables e')
      by_halt (refused number p offset) e =
          choose_refused F s number p offset e ∙ sym (choose_refused F t number p offset (sym m.halt ∙ e))

  module _ (s t : State) (m : Together s t) (u : ℕ) (n : Next F s u) (d : Next F t u) (r : State)
      (a : Settles ok is_settled u s (plain_visit F ltb page u s)) (b : Settles ok is_fresh u t r) where
    settled_alike : (x : ℕ) → is_settled (settle u t) x ≡ is_settled (settle u s) x
    settled_alike x = dite (ℕ_discrete x u)
        (λ q. rw q (settled_own F t m.df.tables u d ∙ sym (settled_own F s m.plain.tables u n)))
        (λ ne. settle_other t u (omega (arith, m.df.tables.marks, d.small)) x ne ∙ m.settled x
        ∙ sym (settle_other s u (omega (arith, m.plain.tables.marks, n.small)) x ne))

    part_step : Sublistᴰ r.pages (plain_visit F ltb page u s).pages
    part_step = rw (plain_lists F ltb page u s) (⊎_elim
        (λ e. rw e (part_kept (F.page_of u) m.part))
        (λ e. rw e.0 (part_left_out (F.page_of u) m.part))
        b.pages)

    together_both : Reached ok is_settled (plain_visit F ltb page u s) → Reached ok is_fresh r
        → Together (plain_visit F ltb page u s) r
    together_both p q = record {
      plain = p;
      df = q;
      settled = λ x. b.settled x ∙ settled_alike x ∙ sym (a.settled x);
      halt = a.halt ∙ ap (halt_after (page (F.page_of u)) (F.page_of u)) m.halt ∙ sym b.halt;
      part = part_step;
    }

  together_step : (s t : State) → Together s t → Together (plain_step s) (df_step t)
  together_step s t m =
      let alike = together_choose s t m in
      let p = step_reached ok is_settled (plain_visit F ltb page) (plain_settling ok) s m.plain in
      let q = step_reached ok is_fresh (df_visit F ltb page) (df_settling ok) t m.df in
      step_cases ok is_settled (plain_visit F ltb page) (plain_settling ok)
      (λ r. Reached ok is_settled r → Together r (df_step t)) s m.plain
      (λ e k. step_cases ok is_fresh (df_visit F ltb page) (df_settling ok) (Together s) t m.df
      (λ f. m)
      (λ v f g i d c. absurd (let z : ◌≡◌ {A = ℕ} 0 1 = cc in omega arith)))
      (λ u e g i n a k. step_cases ok is_fresh (df_visit F ltb page) (df_settling ok)
      (λ r. Reached ok is_fresh r → Together (plain_visit F ltb page u s) r) t m.df
      (λ f j. absurd (let z : ◌≡◌ {A = ℕ} 0 1 = cc in omega arith))
      (λ v f h o d c j.
      let same : v ≡ u = cc in
      rw same (together_both s t m u n (rw same at d) (df_visit F ltb page u t) a (rw same at c) k (rw same at j)))
      q)
      p

  pub together : (n : ℕ) → Together (iter plain_step n (start F source)) (iter df_step n (start F source))
  unfolding start iter
  together n = iter_keeps_both Together plain_step df_step together_step n (start F source) (start F source)
      (record { plain = plain_reached 0; df = df_reached 0; settled = λ x. refl; halt = refl; part = Sublistᴰ-slnil })

  -- Order of settling, of either search.
  module _ (relaxed : State → ℕ → Bool) (visit_of : ℕ → State → State) (settling : Settling ok relaxed visit_of)
      (none : (x : ℕ) → relaxed (start F source) x ≡ false) where
    abbrev after : ℕ → State
    after n = iter (step_by F visit_of) n (start F source)

    at : (n : ℕ) → Reached ok relaxed (after n)
    at n = run_reached ok relaxed visit_of settling n (start F source) (reached-start ok relaxed none)

    pub chosen-least : (n u : ℕ) → choose F (after n) ≡ Station u → LeastCost F page source u (cost_of F (after n) u)
    chosen-least n u e =
        let k = chosen_next ok relaxed (after n) (at n) u e in
        next_least ok relaxed (after n) ((at n).inv k.0) u k.1

    -- whoever was settled stays settled
    still_settled : (x n : ℕ) (s : State) → Reached ok relaxed s → is_settled s x ≡ true
        → is_settled (iter (step_by F visit_of) n s) x ≡ true
    still_settled x n s r e = (iter_keeps (λ t. Reached ok relaxed t × (is_settled t x ≡ true)) (step_by F visit_of)
        (λ t k. (
          step_reached ok relaxed visit_of settling t k.0,
          step_cases ok relaxed visit_of settling (λ t'. is_settled t' x ≡ true) t k.0 (λ f. k.1)
              (λ u f g i m c. c.settled x ∙ settled_still F t i.tables u m x k.1),
        ))
        n s (r, e)).1

    chosen_settled : (n u : ℕ) → choose F (after n) ≡ Station u → is_settled (after (suc n)) u ≡ true
    chosen_settled n u e = rw (iter_last (step_by F visit_of) n (start F source))
        (step_cases ok relaxed visit_of settling (λ t. is_settled t u ≡ true) (after n) (at n)
        (λ f. absurd (let z : ◌≡◌ {A = ℕ} 0 1 = cc in omega arith))
        (λ v f g i m c. let same : v ≡ u = cc in
        rw same (rw same at (c.settled v ∙ settled_own F (after n) i.tables v m))))

    pub chosen-rising : (j k u v c d : ℕ) → j < k → choose F (after j) ≡ Station u → choose F (after k) ≡ Station v
        → LeastCost F page source u c → LeastCost F page source v d → (c ≤ d) × (d ≤ c → u < v)
    chosen-rising j k u v c d lt eu ev lu lv =
        let later = chosen_next ok relaxed (after k) (at k) v ev in
        let i = (at k).inv later.0 in
        let steps : suc j + (k - suc j) ≡ k = omega arith in
        let done : is_settled (after k) u ≡ true = rw steps at
        (rw (← (iter_add (step_by F visit_of) (suc j) (k - suc j) (start F source))) at
        (still_settled u (k - suc j) (after (suc j)) (at (suc j)) (chosen_settled j u eu))) in
        let cu : c ≡ cost_of F (after k) u = least-cost-one F page source u c (cost_of F (after k) u) lu
        (settled_least ok relaxed (after k) i v later.1 u done) in
        let cv : d ≡ cost_of F (after k) v = least-cost-one F page source v d (cost_of F (after k) v) lv
        (chosen-least k v ev) in
        let b = i.order u v done later.1.pending later.1.timed in
        let apart : u ≡ v → ⊥ = λ q. true≢false (sym done ∙ (rw (← q) at later.1.pending)) in (
          omega (arith, b.low),
          λ h. ⊎_elim (λ l. l) (λ q. absurd (apart q)) (below_or_last u v (omega (arith, b.tie (omega arith)))),
        )
