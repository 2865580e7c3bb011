-- Working a page through. A visit marks a station fresh and relaxes its moves; the loop visits the page's stations
-- until none that has a time is stale. It ends: the number of the page's stations that are fresh and no later than
-- the last one visited rises at each turn, so there are no more turns than the page has stations.
use Rattle.common.proofs.Ground.{◌≡◌, refl, sym, ◌∙◌, ap, Bool, true, false, ◌&&◌, true≢false, ◌⊎◌, inl, inr, ⊎_elim}
use Rattle.common.proofs.Ground.{dite, List, ℕ, suc, ◌+◌, ◌-◌, ◌%◌, ◌≤◌, ◌<◌, arith, ℕ_discrete, length, length-set}
use Rattle.common.proofs.Ground.{ltb, leb, eqb, leb-true, le-leb, eq-eqb}
use Rattle.common.proofs.Cases.{le-or-lt}
use Rattle.net.specs.declared.Choice.{Choice}
use Rattle.net.specs.declared.Choice.TheVariants.{Station, Nobody}
use Rattle.net.specs.Net.{Move, Page, good, Frame, is_good, moves_of, count}
use Rattle.net.specs.Search.{State, cost_of, pred_of, mark_of, is_fresh, is_settled, mark_fresh, iter}
use Rattle.net.specs.Search.{relax_all, visit, choose_on, work_turn, work_through}
use Rattle.net.proofs.Sound.{Sound}
use Rattle.net.proofs.Basics.Tests.{and_left, and_right, and-true, false_of}
use Rattle.net.proofs.Basics.Iterate.{iter_keeps, iter_counts, iter_stop}
use Rattle.net.proofs.Basics.Count.{count-le, count_more, count_full}
use Rattle.net.proofs.Basics.Marks.{set_all, mark_fresh_own, mark_fresh_other, mark_fresh_settled}
use Rattle.net.proofs.Relaxing.Relax.{Tables, Spread}
use Rattle.net.proofs.Relaxing.Labels.{Labels, relaxed_spread, relaxed_labels}
use Rattle.net.proofs.Steps.Choose.{NextOn, NextOnIs, choose_on_next, turn_idle, turn_busy}
use Rattle.net.proofs.Steps.Invariant.{Above, above_none, above_trans, spread_above}

-- how many stations page p has
unfoldable pub stations_on : Frame → ℕ → ℕ
stations_on F p = count (λ y. eqb (F.page_of y) p) F.size

pub mark_fresh_tables : (F : Frame) (u : ℕ) (s : State) → Tables F s → Tables F (mark_fresh u s)
mark_fresh_tables F u s z = record {
  costs = z.costs;
  preds = z.preds;
  marks = length-set s.marks u (mark_of s u % 2 + 2) ∙ z.marks;
  below = λ x. set_all (λ m. m < 4) s.marks u x (mark_of s u % 2 + 2) 0 (omega arith) (z.below x);
  capped = z.capped;
}

module _ {F : Frame} {page : ℕ → Page} {source : ℕ} (ok : Sound F page source) where
  -- what holds between visits
  pub record Ready (s : State) : Type 0 where
    pub tables : Tables F s
    pub labels : Labels ok (cost_of F s) (pred_of s) (is_fresh s)

  -- what a visit to u comes to
  pub record Visited (u : ℕ) (s t : State) : Type 0 where
    pub ready : Ready t
    pub above : (T : ℕ) → T ≤ cost_of F s u → (x : ℕ) → Above F T s t x
    pub own : is_fresh t u ≡ true
    pub settled : (x : ℕ) → is_settled t x ≡ is_settled s x

  -- what visits to stations at T or later come to
  pub record After (T : ℕ) (s t : State) : Type 0 where
    pub ready : Ready t
    pub above : (x : ℕ) → Above F T s t x
    pub settled : (x : ℕ) → is_settled t x ≡ is_settled s x

  module _ (u : ℕ) (s : State) (r : Ready s) (small : u < F.size) (h : cost_of F s u < F.none) where
    abbrev marked : State
    marked = mark_fresh u s

    abbrev after : State
    after = relax_all F ltb u (moves_of (page (F.page_of u)) u) marked

    in_marks : u < length s.marks
    in_marks = omega (arith, r.tables.marks)

    spread : Spread F u marked after
    spread = relaxed_spread ok u marked (is_fresh s) (mark_fresh_tables F u s r.tables) h r.labels

    still_fresh : (x : ℕ) → is_fresh after x ≡ true
        → (x ≡ u) ⊎ ((is_fresh s x ≡ true) × (cost_of F after x ≡ cost_of F s x))
    still_fresh x e =
        let k = (spread.entry x).still e in
        dite (ℕ_discrete x u) (λ q. inl q) (λ ne. inr (sym (mark_fresh_other s u in_marks x ne) ∙ k.0, k.1))

    fresh_marked : (x : ℕ) → is_fresh s x ≡ true → is_fresh marked x ≡ true
    fresh_marked x f = dite (ℕ_discrete x u) (λ q. rw q (mark_fresh_own s u in_marks))
        (λ ne. mark_fresh_other s u in_marks x ne ∙ f)

    visited_above : (T : ℕ) → T ≤ cost_of F s u → (x : ℕ) → Above F T s after x
    visited_above T le x =
        let a = spread_above F T u marked after le spread x in
        record { mono = a.mono; time = a.time; fresh = λ l f. a.fresh l (fresh_marked x f); high = a.high }

    relaxed_visited : is_good (page (F.page_of u)) ≡ true → Visited u s after
    relaxed_visited g = record {
      ready = record {
        tables = spread.tables;
        labels = relaxed_labels ok u marked (is_fresh s) (mark_fresh_tables F u s r.tables) h r.labels
            (is_fresh after) g still_fresh;
      };
      above = visited_above;
      own = ((spread.entry u).low (omega arith)).fresh ∙ mark_fresh_own s u in_marks;
      settled = λ x. spread.settled x ∙ mark_fresh_settled s u in_marks x;
    }

  module _ (p : ℕ) (moves : ℕ → List Move) (is : page p ≡ good moves) where
    pub visited : (u : ℕ) (s : State) → Ready s → u < F.size → cost_of F s u < F.none → F.page_of u ≡ p
        → Visited u s (visit F ltb moves u s)
    unfolding visit
    visited u s r small h on = rw same_moves at (relaxed_visited u s r small h (rw (on, is)))
      where
        same_moves : moves_of (page (F.page_of u)) u ≡ moves u
        same_moves = rw (on, is)

    abbrev pub turn : State → State
    turn = work_turn F ltb p moves

    -- a turn finds nobody and changes nothing, or visits the station found
    pub turn_cases : (Q : State → Type 0) (r : State) → Tables F r → (choose_on F p r ≡ Nobody → Q r)
        → ((x : ℕ) → choose_on F p r ≡ Station x → NextOn F p r x → Q (visit F ltb moves x r)) → Q (turn r)
    turn_cases Q r z idle busy = by_choice (choose_on F p r) refl (choose_on_next F p r z)
      where
        by_choice : (c : Choice) → choose_on F p r ≡ c → NextOnIs F p r c → Q (turn r)
        by_choice Nobody e n = rw (turn_idle F ltb p moves r e) (idle e)
        by_choice (Station x) e n = rw (turn_busy F ltb p moves r x e) (busy x e n)

    -- what each visit keeps, the loop keeps
    pub loop_keeps : (P : State → Type 0)
        → ((r : State) (x : ℕ) → Ready r → P r → NextOn F p r x → P (visit F ltb moves x r))
        → (n : ℕ) (r : State) → Ready r → P r → Ready (iter turn n r) × P (iter turn n r)
    loop_keeps P keeps n r ready q = iter_keeps (λ t. Ready t × P t) turn
        (λ t k. turn_cases (λ t'. Ready t' × P t') t k.0.tables (λ e. k)
        (λ x e m. ((visited x t k.0 m.small m.timed m.on).ready, keeps t x k.0 k.1 m)))
        n r (ready, q)

    -- the page's stale stations that have a time are at T or later
    abbrev pub FloorOn : ℕ → State → Type 0
    FloorOn T r = (y : ℕ) → F.page_of y ≡ p → is_fresh r y ≡ false → cost_of F r y < F.none → T ≤ cost_of F r y

    pub floor_after : (T : ℕ) (s t : State) → ((x : ℕ) → Above F T s t x) → T < F.none → FloorOn T s → FloorOn T t
    floor_after T s t above lt floor x on f h = ⊎_elim
        (λ k. let e = (above x).time k in
        omega (
          arith,
          floor x on (false_of (is_fresh s x) (λ g. true≢false (sym ((above x).fresh k g) ∙ f))) (omega arith),
        ))
        (λ k. omega (arith, (above x).high k))
        (le-or-lt (cost_of F s x) T)

    -- all that the loop does happens at T or later
    pub loop-after : (T n : ℕ) (s : State) → Ready s → T < F.none → FloorOn T s → After T s (iter turn n s)
    loop-after T n s ready lt floor = (loop_keeps (After T s)
        (λ r x k a m.
        let v = visited x r k m.small m.timed m.on in
        let late = floor_after T s r a.above lt floor x m.on m.stale m.timed in
        record {
          ready = v.ready;
          above = λ y. above_trans F T s r (visit F ltb moves x r) y (a.above y) (v.above T late y);
          settled = λ y. v.settled y ∙ a.settled y;
        })
        n s ready (record { ready = ready; above = above_none F T s; settled = λ x. refl })).1

    -- of the page's stations: fresh, and no later than T
    done_by : ℕ → State → ℕ → Bool
    done_by T r y = eqb (F.page_of y) p && (is_fresh r y && leb (cost_of F r y) T)

    abbrev stations : ℕ
    stations = stations_on F p

    module _ (T : ℕ) (r : State) (ready : Ready r) (floor : FloorOn T r) (x : ℕ) (m : NextOn F p r x) where
      abbrev next : State
      next = visit F ltb moves x r

      now : ℕ
      now = cost_of F r x

      v : Visited x r next
      v = visited x r ready m.small m.timed m.on

      later : T ≤ now
      unfolding now
      later = floor x m.on m.stale m.timed

      next_floor : FloorOn now next
      unfolding now
      next_floor = floor_after now r next (v.above now (omega arith)) m.timed (λ y on f h. (m.first y on f h).low)

      done_still : (y : ℕ) → y < F.size → done_by T r y ≡ true → done_by now next y ≡ true
      unfolding done_by now
      done_still y l e =
          let on = and_left (eqb (F.page_of y) p) (is_fresh r y && leb (cost_of F r y) T) e in
          let both = and_right (eqb (F.page_of y) p) (is_fresh r y && leb (cost_of F r y) T) e in
          let fresh = and_left (is_fresh r y) (leb (cost_of F r y) T) both in
          let by = leb-true (cost_of F r y) T (and_right (is_fresh r y) (leb (cost_of F r y) T) both) in
          let above = v.above now (omega arith) y in
          and-true (eqb (F.page_of y) p) (is_fresh next y && leb (cost_of F next y) now) on
          (and-true (is_fresh next y) (leb (cost_of F next y) now) (above.fresh (omega (arith, later)) fresh)
          (le-leb (cost_of F next y) now (omega (arith, later, above.mono))))

      done_now : done_by now next x ≡ true
      unfolding done_by now
      done_now = and-true (eqb (F.page_of x) p) (is_fresh next x && leb (cost_of F next x) now)
          (eq-eqb (F.page_of x) p m.on)
          (and-true (is_fresh next x) (leb (cost_of F next x) now) v.own
          (le-leb (cost_of F next x) now (v.above now (omega arith) x).mono))

      not_done : done_by T r x ≡ false
      unfolding done_by
      not_done = false_of (done_by T r x) (λ e. true≢false
          (sym (and_left (is_fresh r x) (leb (cost_of F r x) T)
          (and_right (eqb (F.page_of x) p) (is_fresh r x && leb (cost_of F r x) T) e)) ∙ m.stale))

      done_more : count (done_by T r) F.size < count (done_by now next) F.size
      done_more = count_more (done_by T r) (done_by now next) F.size done_still x m.small not_done done_now

    -- after k turns: k of the page's stations are done by some cost and no stale one is before it, or nobody is left
    record Turned (k : ℕ) (r : State) : Type 0 where
      ready : Ready r
      stage : ((T : ℕ) × FloorOn T r × (k ≤ count (done_by T r) F.size)) ⊎ (choose_on F p r ≡ Nobody)

    turn_turned : (k : ℕ) (r : State) → Turned k r → Turned (suc k) (turn r)
    unfolding now
    turn_turned k r t = turn_cases (Turned (suc k)) r t.ready.tables
        (λ e. record { ready = t.ready; stage = inr e })
        (λ x e m. record {
          ready = (v 0 r t.ready (λ y on f h. omega arith) x m).ready;
          stage = ⊎_elim
              (λ g. inl (
                cost_of F r x,
                next_floor g.0 r t.ready g.1 x m,
                omega (arith, done_more g.0 r t.ready g.1 x m),
              ))
              (λ g. absurd (let n : ◌≡◌ {A = ℕ} 0 1 = cc in omega arith))
              t.stage;
        })

    turned_ends : (r : State) → Turned stations r → choose_on F p r ≡ Nobody
    unfolding stations_on done_by
    turned_ends r t = ⊎_elim (λ g. by_choice g.0 g.2 (choose_on F p r) refl
        (choose_on_next F p r t.ready.tables)) (λ e. e) t.stage
      where
        by_choice : (T : ℕ) → stations ≤ count (done_by T r) F.size → (c : Choice) → choose_on F p r ≡ c
            → NextOnIs F p r c → choose_on F p r ≡ Nobody
        by_choice T le Nobody e n = e
        by_choice T le (Station x) e n =
            let full = count_full (done_by T r) (λ y. eqb (F.page_of y) p) F.size
            (λ y l d. and_left (eqb (F.page_of y) p) (is_fresh r y && leb (cost_of F r y) T) d) le x n.small
            (eq-eqb (F.page_of x) p n.on) in
            let fresh = and_left (is_fresh r x) (leb (cost_of F r x) T)
            (and_right (eqb (F.page_of x) p) (is_fresh r x && leb (cost_of F r x) T) full) in
            absurd (true≢false (sym fresh ∙ n.stale))

    -- The loop ends within as many turns as the page has stations.
    pub loop_ends : (r : State) → Ready r → choose_on F p (iter turn stations r) ≡ Nobody
    loop_ends r ready = turned_ends (iter turn stations r)
        (iter_counts Turned turn turn_turned stations r (record {
          ready = ready;
          stage = inl (0, (λ y on f h. omega arith), omega arith);
        }))

    pub loop_short : (r : State) → Ready r → work_through F ltb p moves r ≡ iter turn stations r
    unfolding work_through stations_on
    loop_short r ready =
        let n = count (λ y. eqb (F.page_of y) p) F.size in
        let all : n + (F.size - n) ≡ F.size = omega (arith, count-le (λ y. eqb (F.page_of y) p) F.size) in
        rw all at (iter_stop turn r n (F.size - n) (turn_idle F ltb p moves (iter turn n r) (loop_ends r ready)))

    pub worked_through : (r : State) → Ready r → choose_on F p (work_through F ltb p moves r) ≡ Nobody
    worked_through r ready = ap (choose_on F p) (loop_short r ready) ∙ loop_ends r ready
