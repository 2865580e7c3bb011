-- No page stands in the DF list more often than it has entry stations: at each reference one more entry station of
-- that page is settled, and whoever is an entry station stays one while the list grows.
use Rattle.common.proofs.Ground.{◌≡◌, refl, sym, ◌∙◌, ap, subst, Bool, true, false, not, ◌&&◌, inl, inr, ⊎_elim, List}
use Rattle.common.proofs.Ground.{[], ◌∷◌, ◌++◌, Memᴰ, Memᴰ-head, Memᴰ-tail, ℕ, ◌+◌, ◌≤◌, ◌<◌, arith}
use Rattle.common.proofs.Ground.{ltb, eqb, ltb-true, lt-ltb, eqb-true, eq-eqb, ne_eqb}
use Rattle.net.specs.Net.{Move, Page, Frame, moves_of, one, count, times_in, moves_to, enters_from, is_entry}
use Rattle.net.specs.Net.{entry_stations}
use Rattle.net.specs.Search.{State, going, is_fresh, is_settled, start, iter, df_visit}
use Rattle.net.proofs.Sound.{Sound}
use Rattle.net.proofs.Basics.Tests.{and_left, and_right, and-true, not_of_false, or_left, or_right, or_cases}
use Rattle.net.proofs.Basics.Iterate.{iter_keeps}
use Rattle.net.proofs.Basics.Count.{count_mono, count_more, count_some}
use Rattle.net.proofs.Basics.Lists.{times_in-one_more, times_in_more, listed_counts}
use Rattle.net.proofs.Relaxing.Log.{df_work, df_quiet, read_lists, df_fresh, df_stale}
use Rattle.net.proofs.Steps.Choose.{Next}
use Rattle.net.proofs.Steps.Invariant.{Inv, settled_own, settled_still}
use Rattle.net.proofs.Steps.Visits.{Settles, df_settling}
use Rattle.net.proofs.Searches.Start.{start_stale}
use Rattle.net.proofs.Searches.Run.{Reached, reached-start, step_cases, step_reached}
use Rattle.net.proofs.Searches.Together.{df_step}
use Rattle.net.proofs.PageLists.Entries.{From, Enters, Entered, start_entered, df_entered}

-- whatever move is offered is counted
moves_count : (v w : ℕ) (moves : List Move) → Memᴰ (record { target = v; time = w }) moves → 0 < moves_to v moves
unfolding moves_to
moves_count v w [] none = elim none [ ]
moves_count v w (m ∷ moves) (Memᴰ-head e) = rw (eq-eqb v m.target (ap (λ n. n.target) e)) (omega arith)
moves_count v w (m ∷ moves) (Memᴰ-tail k) = omega (arith, moves_count v w moves k)

module _ (F : Frame) (page : ℕ → Page) (source : ℕ) where
  from_enters : (list : List ℕ) (v : ℕ) (k : From F page source list v)
      → enters_from F page source list v k.station ≡ true
  unfolding enters_from
  from_enters list v k =
      let u = k.station in
      let listed = lt-ltb 0 (times_in (F.page_of u) list) (listed_counts (F.page_of u) list k.listed) in
      let apart = not_of_false (eqb (F.page_of u) (F.page_of v)) (ne_eqb (F.page_of u) (F.page_of v) k.apart) in
      let leads = lt-ltb 0 (moves_to v (moves_of (page (F.page_of u)) u))
      (moves_count v k.time (moves_of (page (F.page_of u)) u) k.goes) in
      and-true (ltb 0 (times_in (F.page_of u) list))
      (not (eqb (F.page_of u) (F.page_of v)) && ltb 0 (moves_to v (moves_of (page (F.page_of u)) u))) listed
      (and-true (not (eqb (F.page_of u) (F.page_of v)))
      (ltb 0 (moves_to v (moves_of (page (F.page_of u)) u))) apart leads)

  enters_is_entry : (list : List ℕ) (v : ℕ) → Enters F page source list v → is_entry F page source list v ≡ true
  unfolding is_entry
  enters_is_entry list v (inl e) = or_left (eqb v source) (ltb 0 (count (enters_from F page source list v) F.size))
      (eq-eqb v source e)
  enters_is_entry list v (inr k) = or_right (eqb v source) (ltb 0 (count (enters_from F page source list v) F.size))
      (lt-ltb 0 (count (enters_from F page source list v) F.size)
      (count_some (enters_from F page source list v) F.size k.station k.small (from_enters list v k)))

  enters_from_more : (list more : List ℕ) (v u : ℕ) → enters_from F page source list v u ≡ true
      → enters_from F page source (list ++ more) v u ≡ true
  unfolding enters_from
  enters_from_more list more v u e =
      let rest = not (eqb (F.page_of u) (F.page_of v)) && ltb 0 (moves_to v (moves_of (page (F.page_of u)) u)) in
      let listed = ltb-true 0 (times_in (F.page_of u) list) (and_left (ltb 0 (times_in (F.page_of u) list)) rest e) in
      and-true (ltb 0 (times_in (F.page_of u) (list ++ more))) rest
      (lt-ltb 0 (times_in (F.page_of u) (list ++ more)) (omega (arith, times_in_more (F.page_of u) list more)))
      (and_right (ltb 0 (times_in (F.page_of u) list)) rest e)

  entry_more : (list more : List ℕ) (v : ℕ) → is_entry F page source list v ≡ true
      → is_entry F page source (list ++ more) v ≡ true
  unfolding is_entry
  entry_more list more v e =
      let before = count (enters_from F page source list v) F.size in
      let after = count (enters_from F page source (list ++ more) v) F.size in
      ⊎_elim
      (λ k. or_left (eqb v source) (ltb 0 after) k)
      (λ k. or_right (eqb v source) (ltb 0 after) (lt-ltb 0 after (omega (
        arith,
        ltb-true 0 before k,
        count_mono (enters_from F page source list v) (enters_from F page source (list ++ more) v) F.size
            (λ u l. enters_from_more list more v u),
      ))))
      (or_cases (eqb v source) (ltb 0 before) e)

  -- the settled entry stations of page p
  settled_entry : State → List ℕ → ℕ → ℕ → Bool
  settled_entry s list p v = is_settled s v && (eqb (F.page_of v) p && is_entry F page source list v)

  pub Often : State → List ℕ → Type 0
  Often s list = (p : ℕ) → times_in p list ≤ count (settled_entry s list p) F.size

  module _ (s t : State) (list more : List ℕ) (still : (x : ℕ) → is_settled s x ≡ true → is_settled t x ≡ true) where
    entry_still : (p v : ℕ) → v < F.size → settled_entry s list p v ≡ true → settled_entry t (list ++ more) p v ≡ true
    unfolding settled_entry
    entry_still p v lt e =
        let both = and_right (is_settled s v) (eqb (F.page_of v) p && is_entry F page source list v) e in
        and-true (is_settled t v) (eqb (F.page_of v) p && is_entry F page source (list ++ more) v)
        (still v (and_left (is_settled s v) (eqb (F.page_of v) p && is_entry F page source list v) e))
        (and-true (eqb (F.page_of v) p) (is_entry F page source (list ++ more) v)
        (and_left (eqb (F.page_of v) p) (is_entry F page source list v) both)
        (entry_more list more v (and_right (eqb (F.page_of v) p) (is_entry F page source list v) both)))

  often_settled : (s t : State) (list : List ℕ) → ((x : ℕ) → is_settled s x ≡ true → is_settled t x ≡ true)
      → Often s list → Often t list
  unfolding Often settled_entry
  often_settled s t list still o p = omega (
    arith,
    o p,
    count_mono (settled_entry s list p) (settled_entry t list p) F.size
        (λ v l e. and-true (is_settled t v) (eqb (F.page_of v) p && is_entry F page source list v)
        (still v (and_left (is_settled s v) (eqb (F.page_of v) p && is_entry F page source list v) e))
        (and_right (is_settled s v) (eqb (F.page_of v) p && is_entry F page source list v) e)),
  )

  often_listed : (s t : State) (list : List ℕ) (u : ℕ) → ((x : ℕ) → is_settled s x ≡ true → is_settled t x ≡ true)
      → u < F.size
      → is_settled s u ≡ false → is_settled t u ≡ true → is_entry F page source list u ≡ true → Often s list
      → Often t (list ++ (F.page_of u ∷ []))
  unfolding Often settled_entry
  often_listed s t list u still small before now entry o p = rw times_in-one_more (by_page (eqb p (F.page_of u)) refl)
    where
      more : List ℕ
      more = F.page_of u ∷ []

      by_page : (b : Bool) → eqb p (F.page_of u) ≡ b
          → times_in p list + one b ≤ count (settled_entry t (list ++ more) p) F.size
      by_page false q = omega (
        arith,
        o p,
        count_mono (settled_entry s list p) (settled_entry t (list ++ more) p)
            F.size (entry_still s t list more still p),
      )
      by_page true q = omega (
        arith,
        o p,
        count_more (settled_entry s list p) (settled_entry t (list ++ more) p) F.size
            (entry_still s t list more still p) u small
            (ap (λ b. b && (eqb (F.page_of u) p && is_entry F page source list u)) before)
            (and-true (is_settled t u) (eqb (F.page_of u) p && is_entry F page source (list ++ more) u) now
            (and-true (eqb (F.page_of u) p) (is_entry F page source (list ++ more) u)
            (eq-eqb (F.page_of u) p (sym (eqb-true p (F.page_of u) q))) (entry_more list more u entry))),
      )

module _ {F : Frame} {page : ℕ → Page} {source : ℕ} (ok : Sound F page source) where
  -- the DF search under way, with its list
  record Listed (s : State) : Type 0 where
    reached : Reached ok is_fresh s
    entered : s.halt ≡ going → Entered F page source s
    often : Often F page source s s.pages

  module _ (u : ℕ) (s : State) (i : Inv ok is_fresh s) (n : Next F s u) (en : Entered F page source s)
      (o : Often F page source s s.pages)
      (t : State) (step : Settles ok is_fresh u s t) where
    still : (x : ℕ) → is_settled s x ≡ true → is_settled t x ≡ true
    still x e = step.settled x ∙ settled_still F s i.tables u n x e

    now : is_settled t u ≡ true
    now = step.settled u ∙ settled_own F s i.tables u n

  df_often : (u : ℕ) (s : State) (i : Inv ok is_fresh s) (n : Next F s u) → Entered F page source s
      → Often F page source s s.pages
      → Settles ok is_fresh u s (df_visit F ltb page u s)
      → Often F page source (df_visit F ltb page u s) (df_visit F ltb page u s).pages
  df_often u s i n en o k = by_fresh (is_fresh s u) refl
    where
      t : State
      t = df_visit F ltb page u s

      listed_none : is_fresh s u ≡ true → t.pages ≡ s.pages
      listed_none f = ap (λ r. r.pages) (df_fresh F ltb page u s f)

      listed-one : is_fresh s u ≡ false → t.pages ≡ s.pages ++ (F.page_of u ∷ [])
      listed-one f = ap (λ r. r.pages) (df_stale F ltb page u s f) ∙ read_lists F ltb page (df_work F ltb u)
          (df_quiet F ltb u) u s

      by_fresh : (b : Bool) → is_fresh s u ≡ b → Often F page source t t.pages
      by_fresh true f = subst (Often F page source t) (sym (listed_none f))
          (often_settled F page source s t s.pages (still u s i n en o t k) o)
      by_fresh false f = subst (Often F page source t) (sym (listed-one f))
          (often_listed F page source s t s.pages u (still u s i n en o t k) n.small n.pending
          (now u s i n en o t k) (enters_is_entry F page source s.pages u (en u f n.timed)) o)

  step_listed : (s : State) → Listed s → Listed (df_step ok s)
  step_listed s l =
      step_cases ok is_fresh (df_visit F ltb page) (df_settling ok) (λ t. Reached ok is_fresh t → Listed t) s l.reached
      (λ e r. l)
      (λ u e g i n k r. record {
        reached = r;
        entered = df_entered ok u s i n (l.entered g);
        often = df_often u s i n (l.entered g) l.often k;
      })
      (step_reached ok is_fresh (df_visit F ltb page) (df_settling ok) s l.reached)

  start-listed : Listed (start F source)
  unfolding start Often times_in
  start-listed = record {
    reached = reached-start ok is_fresh (start_stale ok);
    entered = λ e. start_entered ok;
    often = λ p. omega arith;
  }

  pub often_entered : (n p : ℕ) → times_in p (iter (df_step ok) n (start F source)).pages
      ≤ entry_stations F page source (iter (df_step ok) n (start F source)).pages p
  unfolding entry_stations Often settled_entry
  often_entered n p =
      let t = iter (df_step ok) n (start F source) in
      let l = iter_keeps Listed (df_step ok) step_listed n (start F source) start-listed in
      omega (
        arith,
        l.often p,
        count_mono (settled_entry F page source t t.pages p)
            (λ v. eqb (F.page_of v) p && is_entry F page source t.pages v) F.size
            (λ v k e. and_right (is_settled t v) (eqb (F.page_of v) p && is_entry F page source t.pages v) e),
      )
