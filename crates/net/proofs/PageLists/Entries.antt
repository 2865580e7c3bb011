-- Between DF steps, whoever has a time and is stale is an entry station: the source, or the target of a move from a
-- station on another listed page. For only a relaxed move makes a station stale or gives it a time, and while a
-- page is in hand the loop works off whatever its own moves make stale on it.
use Rattle.common.proofs.Ground.{◌≡◌, refl, sym, ◌∙◌, ap, Bool, true, false, true≢false, ◌⊎◌, inl, inr, ◌≢◌, ⊎_elim}
use Rattle.common.proofs.Ground.{dite, List, [], ◌∷◌, ◌++◌, Memᴰ, Memᴰ-head, Memᴰ-append_left}
use Rattle.common.proofs.Ground.{Memᴰ-append_right, ℕ, ◌+◌, ◌<◌, arith, ℕ_discrete, ltb}
use Rattle.net.specs.declared.Choice.TheVariants.{Nobody}
use Rattle.common.specs.Costs.{cost}
use Rattle.net.specs.Net.{Move, Page, good, bad, Frame, Goes}
use Rattle.net.specs.Search.{State, going, cost_of, is_fresh, settle, with_page, mark_fresh, start, on_page, read_for}
use Rattle.net.specs.Search.{relax, relax_all, visit, work_through, df_visit}
use Rattle.net.proofs.Sound.{Sound}
use Rattle.net.proofs.Basics.Marks.{settle_fresh, mark_fresh_own, mark_fresh_other}
use Rattle.net.proofs.Relaxing.Log.{df_work, df_quiet, df_fresh, df_stale}
use Rattle.net.proofs.Relaxing.Relax.{Tables, Same, Kind, lowered, tied, kept, Spread, Fits, relax_relaxed}
use Rattle.net.proofs.Relaxing.Relax.{spread_none, relax_all_keeps}
use Rattle.net.proofs.Relaxing.Labels.{goes_fits}
use Rattle.net.proofs.Steps.Choose.{Next, NextOnIs, choose_on_next}
use Rattle.net.proofs.Steps.Invariant.{Inv}
use Rattle.net.proofs.Steps.PageLoop.{Ready, mark_fresh_tables, loop_keeps, worked_through}
use Rattle.net.proofs.Steps.Visits.{ready_u, visited_u}
use Rattle.net.proofs.Searches.Start.{start_timed}

module _ (F : Frame) where
  -- why x is stale once moves of u have been relaxed: it was before, at the same cost, or one of the moves leads
  -- there
  abbrev Why : List Move → State → State → ℕ → Type 0
  Why moves s t x = ((is_fresh s x ≡ false) × (cost_of F t x ≡ cost_of F s x)) ⊎
      ((w : ℕ) × Memᴰ (record { target = x; time = w }) moves)

  why_same : (moves : List Move) (s r t : State) (x : ℕ) → Same F r t x → Why moves s r x → Why moves s t x
  why_same moves s r t x e (inl k) = inl (k.0, e.time ∙ k.1)
  why_same moves s r t x e (inr k) = inr k

  AllWhy : List Move → State → State → Type 0
  AllWhy moves s t = (x : ℕ) → is_fresh t x ≡ false → Why moves s t x

  kind_why : (moves : List Move) (s : State) (u : ℕ) (m : Move) (sum : ℕ) (r t : State) → Memᴰ m moves
      → AllWhy moves s r
      → Kind F u m.target sum r t → is_fresh t m.target ≡ false → Why moves s t m.target
  unfolding AllWhy
  kind_why moves s u m sum r t k p (lowered lt a b c) f = inr (m.time, k)
  kind_why moves s u m sum r t k p (tied e lt a b c) f = ⊎_elim (λ j. inl (j.0, a ∙ j.1)) inr
      (p m.target (sym c ∙ f))
  kind_why moves s u m sum r t k p (kept le lo e) f = why_same moves s r t m.target e
      (p m.target (sym e.fresh ∙ f))

  pub relax_all_why : (u : ℕ) (moves : List Move) (s : State) → ((m : Move) → Memᴰ m moves → Fits F m) → Tables F s
      → (x : ℕ) → is_fresh (relax_all F ltb u moves s) x ≡ false → Why moves s (relax_all F ltb u moves s) x
  unfolding AllWhy
  relax_all_why u moves s fits z = (relax_all_keeps F u s (AllWhy moves s) moves fits one s (spread_none F u s z)
      (λ x f. inl (f, refl))).1
    where
      one : (m : Move) (r : State) → Memᴰ m moves → Spread F u s r → AllWhy moves s r
          → AllWhy moves s (relax F ltb u m r)
      one m r k p q x f =
          let v = relax_relaxed F u m r p.tables (fits m k) in
          dite (ℕ_discrete x m.target)
          (λ e. rw e (kind_why moves s u m (cost_of F r u + cost m.time 1) r (relax F ltb u m r) k q v.kind
          (rw e at f)))
          (λ ne. why_same moves s r (relax F ltb u m r) x (v.others x ne) (q x (sym (v.others x ne).fresh ∙ f)))

module _ (F : Frame) (page : ℕ → Page) (source : ℕ) where
  -- a move from another page of the list leads to x
  pub record From (list : List ℕ) (x : ℕ) : Type 0 where
    pub station : ℕ
    pub time : ℕ
    pub small : station < F.size
    pub goes : Goes F page station x time
    pub apart : F.page_of station ≢ F.page_of x
    pub listed : Memᴰ (F.page_of station) list

  -- x is an entry station where the pages of the list are listed
  abbrev pub Enters : List ℕ → ℕ → Type 0
  Enters list x = (x ≡ source) ⊎ From list x

  enters_more : (list : List ℕ) (p x : ℕ) → Enters list x → Enters (list ++ (p ∷ [])) x
  enters_more list p x (inl e) = inl e
  enters_more list p x (inr k) = inr (record {
    station = k.station;
    time = k.time;
    small = k.small;
    goes = k.goes;
    apart = k.apart;
    listed = Memᴰ-append_left (p ∷ []) k.listed;
  })

  abbrev pub Entered : State → Type 0
  Entered s = (x : ℕ) → is_fresh s x ≡ false → cost_of F s x < F.none → Enters s.pages x

module _ {F : Frame} {page : ℕ → Page} {source : ℕ} (ok : Sound F page source) where
  pub start_entered : Entered F page source (start F source)
  start_entered x f h = inl (start_timed ok x h)

  -- While page p is in hand and the list is l.
  module _ (p : ℕ) (moves : ℕ → List Move) (is : page p ≡ good moves) (l : List ℕ) (there : Memᴰ p l) where
    InHand : State → Type 0
    InHand r = (x : ℕ) → is_fresh r x ≡ false → cost_of F r x < F.none → (F.page_of x ≡ p) ⊎ Enters F page source l x

    visit_in_hand : (y : ℕ) (r : State) → Ready ok r → F.page_of y ≡ p → y < F.size → InHand r
        → InHand (visit F ltb moves y r)
    unfolding visit InHand
    visit_in_hand y r ready on small before x f h = ⊎_elim old new
        (relax_all_why F y (moves y) (mark_fresh y r) (goes_fits ok y (moves y) goes)
        (mark_fresh_tables F y r ready.tables) x f)
      where
        goes : (m : Move) → Memᴰ m (moves y) → Goes F page y m.target m.time
        goes m k = rw (on, is) k

        old : (is_fresh (mark_fresh y r) x ≡ false)
            × (cost_of F (relax_all F ltb y (moves y) (mark_fresh y r)) x ≡ cost_of F r x)
            → (F.page_of x ≡ p) ⊎ Enters F page source l x
        old k =
            let in_marks = ready.tables.marks in
            dite (ℕ_discrete x y)
            (λ e. absurd (true≢false (sym (mark_fresh_own r y (omega arith)) ∙ rw e at k.0)))
            (λ ne. before x (sym (mark_fresh_other r y (omega arith) x ne) ∙ k.0) (rw k.1 at h))

        new : (w : ℕ) × Memᴰ (record { target = x; time = w }) (moves y)
            → (F.page_of x ≡ p) ⊎ Enters F page source l x
        new k = dite (ℕ_discrete (F.page_of x) p) inl
            (λ ne. inr (inr (record {
              station = y;
              time = k.0;
              small = small;
              goes = goes (record { target = x; time = k.0 }) k.1;
              apart = λ e. ne (sym e ∙ on);
              listed = rw on there;
            })))

    loop_enters : (r : State) → Ready ok r → InHand r → (x : ℕ) → is_fresh (work_through F ltb p moves r) x ≡ false
        → cost_of F (work_through F ltb p moves r) x < F.none → Enters F page source l x
    unfolding work_through InHand
    loop_enters r ready before x f h =
        let t = work_through F ltb p moves r in
        let k = loop_keeps ok p moves is InHand (λ q y a b n. visit_in_hand y q a n.on n.small b)
        F.size r ready before in
        let none : NextOnIs F p t Nobody = rw (worked_through ok p moves is r ready) at
        (choose_on_next F p t k.0.tables) in
        ⊎_elim (λ q. absurd (none x q f h)) (λ e. e) (k.1 x f h)

  module _ (u : ℕ) (s : State) (i : Inv ok is_fresh s) (n : Next F s u) (before : Entered F page source s) where
    abbrev s₁ : State
    s₁ = with_page (F.page_of u) (settle u s)

    fresh_same : (x : ℕ) → is_fresh s₁ x ≡ is_fresh s x
    fresh_same = settle_fresh s u (omega (arith, i.tables.marks, n.small))

    there : Memᴰ (F.page_of u) s₁.pages
    there = Memᴰ-append_right s.pages (Memᴰ-head refl)

    worked_entered : (moves : ℕ → List Move) → page (F.page_of u) ≡ good moves
        → Entered F page source (work_through F ltb (F.page_of u) moves (visit F ltb moves u s₁))
    unfolding InHand
    worked_entered moves e x f h = rw (ap (λ l. l.pages) (df_quiet F ltb u moves s₁))
        (loop_enters (F.page_of u) moves e s₁.pages there (visit F ltb moves u s₁)
        (visited_u ok u s i n moves e).ready
        (visit_in_hand (F.page_of u) moves e s₁.pages there u s₁ (ready_u ok u s i n) refl n.small
        (λ y a b. inr (enters_more F page source s.pages (F.page_of u) y
        (before y (sym (fresh_same y) ∙ a) b)))) x f h)

    read_entered : (content : Page) → page (F.page_of u) ≡ content
        → (on_page (df_work F ltb u) (F.page_of u) content s₁).halt ≡ going
        → Entered F page source (on_page (df_work F ltb u) (F.page_of u) content s₁)
    read_entered (good moves) e h = worked_entered moves e
    read_entered (bad number offset) e h = absurd (let z : ◌≡◌ {A = ℕ} 0 1 = cc in omega arith)

    pub df_entered : (df_visit F ltb page u s).halt ≡ going → Entered F page source (df_visit F ltb page u s)
    unfolding read_for
    df_entered = by_fresh (is_fresh s u) refl
      where
        by_fresh : (b : Bool) → is_fresh s u ≡ b → (df_visit F ltb page u s).halt ≡ going
            → Entered F page source (df_visit F ltb page u s)
        by_fresh true f = rw (df_fresh F ltb page u s f) (λ h x e k. before x (sym (fresh_same x) ∙ e) k)
        by_fresh false f = rw (df_stale F ltb page u s f) (read_entered (page (F.page_of u)) refl)
