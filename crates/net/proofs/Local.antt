-- Locality: two nets that agree on the pages that the first one's search lists get the same result in every part,
-- accepted or refused. For a visit reads only the page that it lists, and the list only grows. Once for both
-- searches, for any net and any comparison.
use Rattle.common.proofs.Ground.{◌≡◌, refl, sym, ◌∙◌, ap, Bool, true, false, List, [], ◌∷◌, Memᴰ, Memᴰ-head}
use Rattle.common.proofs.Ground.{Memᴰ-append_left, Memᴰ-append_right, ℕ, zero, suc}
use Rattle.net.specs.declared.Choice.{Choice}
use Rattle.net.specs.declared.Choice.TheVariants.{Station, Nobody}
use Rattle.net.specs.Net.{Move, Page, Frame}
use Rattle.net.specs.Search.{State, is_fresh, settle, with_page, start, choose, on_choice, iter, on_page, read_for}
use Rattle.net.specs.Search.{plain_visit, df_visit, step_by, search_by}
use Rattle.net.specs.Demands.{AgreeOn}
use Rattle.net.proofs.Basics.Iterate.{iter_keeps}
use Rattle.net.proofs.Relaxing.Log.{Quiet, plain_work, plain_quiet, df_work, df_quiet, read_lists, df_fresh}
use Rattle.net.proofs.Relaxing.Log.{df_stale}

-- whatever stands in one list stands in the other
abbrev Within : List ℕ → List ℕ → Type 0
Within list more = (p : ℕ) → Memᴰ p list → Memᴰ p more

module _ (F : Frame) (page other : ℕ → Page) where
  -- a visit that keeps the list and looks at no page but those that it lists
  pub record LocalVisit (visit_of other_visit : ℕ → State → State) : Type 0 where
    pub grows : (u : ℕ) (s : State) → Within s.pages (visit_of u s).pages
    pub local : (u : ℕ) (s : State) → AgreeOn (visit_of u s).pages page other → visit_of u s ≡ other_visit u s

  module _ (visit_of other_visit : ℕ → State → State) (v : LocalVisit visit_of other_visit) where
    choice_grows : (c : Choice) (s : State) → Within s.pages (on_choice visit_of c s).pages
    choice_grows Nobody s = λ p m. m
    choice_grows (Station u) s = v.grows u s

    choice_local : (c : Choice) (s : State) → AgreeOn (on_choice visit_of c s).pages page other
        → on_choice visit_of c s ≡ on_choice other_visit c s
    choice_local Nobody s agree = refl
    choice_local (Station u) s agree = v.local u s agree

    run_grows : (n : ℕ) (s : State) → Within s.pages (iter (step_by F visit_of) n s).pages
    unfolding step_by
    run_grows n s = iter_keeps (λ t. Within s.pages t.pages) (step_by F visit_of)
        (λ t w p m. choice_grows (choose F t) t p (w p m)) n s (λ p m. m)

    run_local : (n : ℕ) (s : State) → AgreeOn (iter (step_by F visit_of) n s).pages page other
        → iter (step_by F visit_of) n s ≡ iter (step_by F other_visit) n s
    unfolding iter step_by
    run_local zero s agree = refl
    run_local (suc n) s agree =
        let t = on_choice visit_of (choose F s) s in
        let step : t ≡ on_choice other_visit (choose F s) s = choice_local (choose F s) s
        (λ p m. agree p (run_grows n t p m)) in
        run_local n t agree ∙ ap (iter (step_by F other_visit) n) step

    pub search_local : (source : ℕ) → AgreeOn (search_by F visit_of source).pages page other
        → search_by F visit_of source ≡ search_by F other_visit source
    unfolding search_by
    search_local source = run_local F.size (start F source)

  module _ (less : ℕ → ℕ → Bool) (work : ℕ → (ℕ → List Move) → State → State)
      (quiet : (u : ℕ) → Quiet F less (work u)) where
    read_local : LocalVisit (λ u. read_for F page u (work u)) (λ u. read_for F other u (work u))
    unfolding read_for
    read_local = record {
      grows = λ u s p m. rw (read_lists F less page (work u) (quiet u) u s) (Memᴰ-append_left (F.page_of u ∷ []) m);
      local = λ u s agree. ap (λ content. on_page (work u) (F.page_of u) content (with_page (F.page_of u) (settle u s)))
          (agree (F.page_of u)
          (rw (read_lists F less page (work u) (quiet u) u s) (Memᴰ-append_right s.pages (Memᴰ-head refl))));
    }

  module _ (less : ℕ → ℕ → Bool) where
    pub plain_visit_local : LocalVisit (plain_visit F less page) (plain_visit F less other)
    unfolding plain_visit
    plain_visit_local = record { grows = r.grows; local = r.local }
      where
        r : LocalVisit (λ u. read_for F page u (plain_work F less u)) (λ u. read_for F other u (plain_work F less u))
        r = read_local less (plain_work F less) (plain_quiet F less)

    pub df_visit_local : LocalVisit (df_visit F less page) (df_visit F less other)
    df_visit_local = record {
      grows = λ u s. by_fresh_grows u s (is_fresh s u) refl;
      local = λ u s. by_fresh_local u s (is_fresh s u) refl;
    }
      where
        r : LocalVisit (λ u. read_for F page u (df_work F less u)) (λ u. read_for F other u (df_work F less u))
        r = read_local less (df_work F less) (df_quiet F less)

        by_fresh_grows : (u : ℕ) (s : State) (b : Bool) → is_fresh s u ≡ b
            → Within s.pages (df_visit F less page u s).pages
        by_fresh_grows u s true f = rw (df_fresh F less page u s f) (λ p m. m)
        by_fresh_grows u s false f = rw (df_stale F less page u s f) (r.grows u s)

        by_fresh_local : (u : ℕ) (s : State) (b : Bool) → is_fresh s u ≡ b
            → AgreeOn (df_visit F less page u s).pages page other
            → df_visit F less page u s ≡ df_visit F less other u s
        by_fresh_local u s true f = λ agree. df_fresh F less page u s f ∙ sym (df_fresh F less other u s f)
        by_fresh_local u s false f = rw (df_stale F less page u s f, df_stale F less other u s f) (r.local u s)
