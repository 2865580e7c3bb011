-- The laws of the engine's run (specs/Run), for every net that is `Sound` and for both searches, by the flag: it is the
-- search by the letter of document 01; it is over where nobody waits; what it lists; what its tables hold after every
-- number of references, of turns with a page in hand and of a visited station's moves; who waits after each move. The
-- proofs are in Searches/References, Steps/Turns and Steps/Waking. Of who is first, by stations and by pages,
-- Steps/Waiting has the laws, which ask nothing of the net.
use Rattle.common.proofs.Ground.{◌≡◌, refl, subst, sym, ◌∙◌, ap, Bool, true, false, not, ◌&&◌, ◌||◌, true≢false, ◌≢◌}
use Rattle.common.proofs.Ground.{⊎_elim, List, [], ◌∷◌, ◌++◌, Memᴰ, Memᴰ-head, Memᴰ-append_left}
use Rattle.common.proofs.Ground.{Memᴰ-append_right, ℕ, zero, suc, ◌+◌, ◌-◌, ◌≤◌, ◌<◌, arith, length, ltb, eqb}
use Rattle.common.proofs.Ground.{eqb-true, eqb-false}
use Rattle.common.proofs.Cases.{le-or-lt}
use Rattle.common.specs.Numbers.{source_mark, no_pred}
use Rattle.net.specs.declared.Choice.{Choice}
use Rattle.net.specs.declared.Choice.TheVariants.{Station, Nobody}
use Rattle.common.specs.Costs.{cost}
use Rattle.net.specs.Net.{Move, Page, good, bad, Frame, Goes}
use Rattle.net.specs.Search.{State, going, refused, with_page, with_halt, cost_of, pred_of}
use Rattle.net.specs.Search.{reached, start, iter, on_page, relax_to, relax, relax_all, search_by}
use Rattle.net.specs.Run.{search_of, unmarked, stop_waiting, turn_limit, waits, first_waiting, first_on, visit_of}
use Rattle.net.specs.Run.{turn_of, page_work, reference, step_run, after_references, run_of, InHand}
use Rattle.net.proofs.Sound.{Sound, below_none}
use Rattle.net.proofs.Basics.Tests.{false_of, same_test}
use Rattle.net.proofs.Basics.Iterate.{iter_last, iter_stop}
use Rattle.net.proofs.Basics.Lists.{length-one_more}
use Rattle.net.proofs.Relaxing.Relax.{Tables}
use Rattle.net.proofs.Relaxing.Labels.{Rooted, sum_below_none}
use Rattle.net.proofs.Steps.Choose.{Next}
use Rattle.net.proofs.Steps.Waiting.{on_listing, waits_timed, waits_if, first_lowest, first_next}
use Rattle.net.proofs.Steps.Waiting.{first_on_page, on_lowest, on_waits}
use Rattle.net.proofs.Steps.Turns.{Steady, steady_tables, steady_rooted, steady_listing, turn_of_idle}
use Rattle.net.proofs.Steps.Turns.{turn_of_busy, step_run_idle, step_run_busy, turns_log, reference_lists}
use Rattle.net.proofs.Steps.Turns.{turns_steady, turns_work_through}
use Rattle.net.proofs.Steps.Waking.{Visiting, visiting_begins, visiting_more, visiting_time, visiting_sum}
use Rattle.net.proofs.Steps.Waking.{visiting_waits, stopped_time, stopped_waits}
use Rattle.net.proofs.Searches.Start.{start_timed, start_rooted}
use Rattle.net.proofs.Searches.References.{start_not_done, run_steady, run_over, df_run, plain-run}
use Rattle.net.proofs.Laws.{plain_one_comparison, df_one_comparison}

-- What the tables of a run hold at any time.
pub record Standing (F : Frame) (page : ℕ → Page) (source : ℕ) (s : State) : Type 0 where
  pub sizes : Tables F s
  pub inside : (v : ℕ) → cost_of F s v < F.none → v < F.size
  pub source_cost : cost_of F s source ≡ 0
  pub source_pred : pred_of s source ≡ source_mark
  pub pred_inside : (v : ℕ) → v ≢ source → cost_of F s v < F.none → pred_of s v < F.size
  pub no_pred_lem : (v : ℕ) → F.none ≤ cost_of F s v → pred_of s v ≡ no_pred
  -- no sum that relaxing forms reaches none
  pub sums : (u v w : ℕ) → cost_of F s u < F.none → Goes F page u v w → cost_of F s u + cost w 1 < F.none

-- A move of x that is relaxed next, in state r; the sum is that of its cost and the cost x had before its visit.
pub record NextMove (df : Bool) (F : Frame) (x sum : ℕ) (next : Move) (r : State) : Type 0 where
  pub target : next.target < F.size
  pub sum_below : sum < F.none
  pub by_sum : relax F ltb x next r ≡ relax_to F ltb x next.target sum r
  -- its target waits if it is lowered, and all others wait as before
  pub wakes : (v : ℕ)
      → waits df F (relax F ltb x next r) v ≡ ((eqb v next.target && ltb sum (cost_of F r v)) || waits df F r v)

relax_by_sum : (F : Frame) (x : ℕ) (next : Move) (r : State) (time : ℕ) → cost_of F r x ≡ time
    → relax F ltb x next r ≡ relax_to F ltb x next.target (time + cost next.time 1) r
unfolding relax
relax_by_sum F x next r time e = ap (λ t. relax_to F ltb x next.target (t + cost next.time 1) r) e

module _ {F : Frame} {page : ℕ → Page} {source : ℕ} (ok : Sound F page source) where
  standing : (s : State) → Tables F s → Rooted ok (cost_of F s) (pred_of s) → Standing F page source s
  standing s z r = record {
    sizes = z;
    inside = r.inside;
    source_cost = r.source_cost;
    source_pred = r.source_pred;
    pred_inside = λ v ne h. let (w, g, le) = (r.root v h).from ne in r.inside (pred_of s v) (omega arith);
    no_pred_lem = r.none;
    sums = sum_below_none ok (cost_of F s) (pred_of s) r;
  }

  -- The run is the search by the letter, but for the marks.
  pub run_is_search : (df : Bool) → unmarked (search_of df F page source) ≡ unmarked (run_of df F page source)
  unfolding search_by
  run_is_search true = ap unmarked (df_one_comparison F page source ok) ∙ df_run ok
  run_is_search false = ap unmarked (plain_one_comparison F page source ok) ∙ plain-run ok

  -- In the plain search the one station visited is the one to settle next.
  plain_next : {k p : ℕ} {moves : ℕ → List Move} (m : ℕ) {s : State} → InHand false F page source k p moves m s → m < 1
      → (x : ℕ) → first_on false F p s ≡ Station x → Next F s x
  unfolding iter
  plain_next (suc m) h more x f = absurd (omega arith)
  plain_next {k} {p} zero {s} h more x f =
      let begun = after_references false F page source k in
      let n = (first_next F begun h.station (run_steady ok false k).tables h.first).1 in
      let there : first_on false F p s ≡ Station h.station = ap (first_on false F p) h.state
      ∙ on_listing F begun _ _ false p ∙ rw h.on at (first_on_page false F begun h.station h.first) in
      let same : h.station ≡ x = cc in
      rw (h.state, ← same)
      (record { small = n.small; pending = n.pending; timed = n.timed; first = n.first })

  visit_next : (df : Bool) {k p : ℕ} {moves : ℕ → List Move} {m : ℕ} {s : State}
      → InHand df F page source k p moves m s → m < turn_limit df F → (x : ℕ) → first_on df F p s ≡ Station x
      → df ≡ false → Next F s x
  visit_next true h more x f e = absurd (true≢false e)
  visit_next false {m = m} h more x f e = plain_next m h more x f

  module _ (df : Bool) where
    abbrev run : State
    run = run_of df F page source

    abbrev run_at : ℕ → State
    run_at = after_references df F page source

    pub run_costs : (search_of df F page source).costs ≡ run.costs
    run_costs = ap (λ s. s.costs) (run_is_search df)

    pub run_preds : (search_of df F page source).preds ≡ run.preds
    run_preds = ap (λ s. s.preds) (run_is_search df)

    pub run_pages : (search_of df F page source).pages ≡ run.pages
    run_pages = ap (λ s. s.pages) (run_is_search df)

    pub run_halt : (search_of df F page source).halt ≡ run.halt
    run_halt = ap (λ s. s.halt) (run_is_search df)

    pub run_reached : reached F (search_of df F page source) ≡ reached F run
    unfolding reached
    run_reached = ap (reached F) (run_is_search df)

    -- Between references; before the first just the source waits.
    pub run_standing : (k : ℕ) → Standing F page source (run_at k)
    run_standing k = standing (run_at k) (steady_tables ok df (run_at k) (run_steady ok df k))
        (steady_rooted ok df (run_at k) (run_steady ok df k))

    pub start-waits : (v : ℕ) → waits df F (start F source) v ≡ eqb v source
    start-waits v = same_test (eqb v source) (waits df F (start F source) v)
        (λ e. waits_if df F (start F source) v (start_not_done ok df v)
        (rw (eqb-true v source e) (omega (arith, (start_rooted ok).source_cost, below_none ok))))
        (λ e. false_of (waits df F (start F source) v)
        (λ w. eqb-false v source e (start_timed ok v (waits_timed df F (start F source) v w))))

    one_more : (k : ℕ) → run_at (suc k) ≡ step_run df F page (run_at k)
    one_more k = iter_last (step_run df F page) k (start F source)

    -- The run is over where nobody waits, and so after as many references as there are stations.
    past_end : (k : ℕ) → F.size ≤ k → run_at k ≡ run
    unfolding run_of
    past_end k le =
        let all : F.size + (k - F.size) ≡ k = omega arith in
        rw all at (iter_stop (step_run df F page) (start F source) F.size (k - F.size)
        (step_run_idle df F page (run_at F.size) (run_over ok df)))

    pub run_stops : (k : ℕ) → first_waiting df F (run_at k) ≡ Nobody → run_at k ≡ run
    unfolding run_of
    run_stops k e = ⊎_elim
        (λ le. let all : k + (F.size - k) ≡ F.size = omega arith in
        sym (rw all at (iter_stop (step_run df F page) (start F source) k (F.size - k)
        (step_run_idle df F page (run_at k) e))))
        (λ lt. past_end k (omega arith))
        (le-or-lt k F.size)

    -- Before a reference for u: fewer references than stations were made, each listed its page, and this one lists u's.
    module _ (k : ℕ) {u : ℕ} (e : first_waiting df F (run_at k) ≡ Station u) where
      pub reference-inside : k < F.size
      reference-inside = ⊎_elim
          (λ le. let over = run_over ok df in
          let same = past_end k le in
          absurd (let z : ◌≡◌ {A = ℕ} 0 1 = cc in omega arith))
          (λ lt. lt)
          (le-or-lt F.size k)

      pub reference_next : run_at (suc k) ≡ reference df F page u (run_at k)
      reference_next = one_more k ∙ step_run_busy df F page (run_at k) u e

      pub reference-listed : (run_at (suc k)).pages ≡ (run_at k).pages ++ (F.page_of u ∷ [])
      reference-listed = ap (λ s. s.pages) reference_next ∙ reference_lists F df page u (run_at k)

      pub reference_bad : (number offset : ℕ) → page (F.page_of u) ≡ bad number offset
          → run_at (suc k) ≡ with_halt (refused number (F.page_of u) offset) (with_page (F.page_of u) (run_at k))
      unfolding reference
      reference_bad number offset is =
          let p = F.page_of u in
          reference_next ∙ ap (λ content. on_page (page_work df F p) p content (with_page p (run_at k))) is

      -- a good page is in hand then, and u is the first to be visited
      pub hand_begins : (moves : ℕ → List Move) → page (F.page_of u) ≡ good moves
          → InHand df F page source k (F.page_of u) moves 0 (with_page (F.page_of u) (run_at k))
      unfolding iter
      hand_begins moves is =
          record { station = u; first = e; on = refl; content = is; turns = omega arith; state = refl }

      pub hand_first : first_on df F (F.page_of u) (with_page (F.page_of u) (run_at k)) ≡ Station u
      hand_first = on_listing F (run_at k) _ _ df (F.page_of u) ∙ first_on_page df F (run_at k) u e

    -- before a reference there was one
    earlier : (k : ℕ) {u : ℕ} → first_waiting df F (run_at (suc k)) ≡ Station u
        → (v : ℕ) × (first_waiting df F (run_at k) ≡ Station v)
    earlier k e = by_choice (first_waiting df F (run_at k)) refl
      where
        by_choice : (c : Choice) → first_waiting df F (run_at k) ≡ c → (v : ℕ) × (first_waiting df F (run_at k) ≡ Station v)
        by_choice (Station v) f = (v, f)
        by_choice Nobody f =
            let same = one_more k ∙ step_run_idle df F page (run_at k) f in
            absurd (let z : ◌≡◌ {A = ℕ} 0 1 = cc in omega arith)

    pub references_made : (k : ℕ) {u : ℕ} → first_waiting df F (run_at k) ≡ Station u → length (run_at k).pages ≡ k
    unfolding iter start
    references_made zero e = refl
    references_made (suc k) e =
        let (v, f) = earlier k e in
        ap length (reference-listed k f) ∙ length-one_more (run_at k).pages (F.page_of v)
        ∙ ap suc (references_made k f)

  -- With a page in hand, after any number of the turns that it gets.
  module _ {df : Bool} {k p : ℕ} {moves : ℕ → List Move} {m : ℕ} {s : State}
      (h : InHand df F page source k p moves m s) where
    abbrev begun : State
    begun = with_page p (after_references df F page source k)

    abbrev turn : State → State
    turn = turn_of df F p moves

    hand_steady : Steady ok df s
    hand_steady = rw h.state (subst (λ q. Steady ok df
        (iter (turn_of df F q moves) m (with_page q (after_references df F page source k)))) h.on
        (turns_steady ok h.station moves (rw h.on h.content) df (after_references df F page source k)
        (run_steady ok df k) h.first m h.turns))

    pub hand_standing : Standing F page source s
    hand_standing = standing s (steady_tables ok df s hand_steady) (steady_rooted ok df s hand_steady)

    pub hand_listed : s.pages ≡ (after_references df F page source k).pages ++ (p ∷ [])
    hand_listed = ap (λ t. t.pages) h.state ∙ ap (λ l. l.pages) (turns_log F df p moves m begun)

    pub hand_going : s.halt ≡ going
    hand_going = ap (λ t. t.halt) h.state ∙ ap (λ l. l.halt) (turns_log F df p moves m begun)
        ∙ (first_lowest df F (after_references df F page source k) h.station h.first).0

    hand_after : (n : ℕ) → turn_limit df F ≡ n → after_references df F page source (suc k) ≡ iter turn n begun
    unfolding reference page_work
    hand_after n e = reference_next df k h.first
        ∙ ap (λ q. on_page (page_work df F q) q (page q) (with_page q (after_references df F page source k))) h.on
        ∙ ap (λ content. on_page (page_work df F p) p content begun) h.content
        ∙ ap (λ j. iter turn j begun) e

    -- the reference is over when the turns are made, and where nobody waits on the page
    pub hand_made : m ≡ turn_limit df F → s ≡ after_references df F page source (suc k)
    hand_made e = h.state ∙ sym (hand_after m (sym e))

    pub hand_stops : first_on df F p s ≡ Nobody → s ≡ after_references df F page source (suc k)
    hand_stops e =
        let rest : turn_limit df F ≡ m + (turn_limit df F - m) = omega (arith, h.turns) in
        h.state ∙ sym (hand_after (m + (turn_limit df F - m)) rest ∙ iter_stop turn begun m (turn_limit df F - m)
        (turn_of_idle df F p moves (iter turn m begun) (rw h.state at e)))

    -- x is to be visited
    module _ {x : ℕ} (f : first_on df F p s ≡ Station x) where
      pub visit-inside : x < F.size
      visit-inside = (on_lowest df F s p x f).1.inside

      pub visit_on : F.page_of x ≡ p
      visit_on = (on_lowest df F s p x f).0

      pub visit_timed : cost_of F s x < F.none
      visit_timed = waits_timed df F s x (on_waits df F s p x f)

      abbrev stopped : State
      stopped = stop_waiting df x s

      pub visit_stops : (v : ℕ) → waits df F stopped v ≡ (not (eqb v x) && waits df F s v)
      visit_stops = stopped_waits F df x s (omega (arith, visit-inside, hand_standing.sizes.marks))

      -- in a turn that the page gets
      module _ (more : m < turn_limit df F) where
        pub hand_turn : InHand df F page source k p moves (suc m) (visit_of df F moves x s)
        hand_turn = record {
          station = h.station;
          first = h.first;
          on = h.on;
          content = h.content;
          turns = more;
          state = sym (turn_of_busy df F p moves s x f) ∙ ap turn h.state ∙ sym (iter_last turn m begun);
        }

        visiting : Visiting ok df x stopped
        visiting = visiting_begins ok df x s hand_steady visit_timed (visit_next df h more x f)

        -- after a first part of its moves
        module _ (before rest : List Move) (split : moves x ≡ before ++ rest) where
          abbrev part : State
          part = relax_all F ltb x before stopped

          part_goes : (n : Move) → Memᴰ n (before ++ rest) → Goes F page x n.target n.time
          part_goes n i = rw (visit_on, h.content, split) i

          goes : (n : Move) → Memᴰ n before → Goes F page x n.target n.time
          goes n i = part_goes n (Memᴰ-append_left rest i)

          now : Visiting ok df x part
          now = visiting_more ok df x stopped visiting before goes

          pub visit_standing : Standing F page source part
          visit_standing = standing part now.tables now.rooted

          pub visit_time : cost_of F part x ≡ cost_of F s x
          visit_time = visiting_time ok df x stopped visiting before goes ∙ stopped_time F df x s x

        pub visit-move : (before rest : List Move) (next : Move) → moves x ≡ before ++ (next ∷ rest)
            → NextMove df F x (cost_of F s x + cost next.time 1) next (relax_all F ltb x before stopped)
        visit-move before rest next split =
            let r = relax_all F ltb x before stopped in
            let time : cost_of F r x ≡ cost_of F s x = visit_time before (next ∷ rest) split in
            let go = part_goes before (next ∷ rest) split next (Memᴰ-append_right before (Memᴰ-head refl)) in
            let v = now before (next ∷ rest) split in
            record {
              target = (ok.moves x next.target next.time go).1;
              sum_below = rw time at (visiting_sum ok df x r v next go);
              by_sum = relax_by_sum F x next r (cost_of F s x) time;
              wakes = rw time at (visiting_waits ok df x r v next go);
            }

  -- In the DF search the page is worked through when its turns are made: whoever waits there is visited before.
  module _ {k p : ℕ} {moves : ℕ → List Move} {m : ℕ} {s : State} (h : InHand true F page source k p moves m s) where
    pub hand_worked : m ≡ turn_limit true F → first_on true F p s ≡ Nobody
    hand_worked e =
        let at = after_references true F page source k in
        rw (h.state, e) (turns_work_through ok p moves h.content (with_page p at)
        (steady_listing ok _ _ true at (run_steady ok true k)))

    pub hand_more : {x : ℕ} → first_on true F p s ≡ Station x → m < turn_limit true F
    hand_more f = ⊎_elim
        (λ le. let none = hand_worked (omega (arith, h.turns)) in
        absurd (let z : ◌≡◌ {A = ℕ} 0 1 = cc in omega arith))
        (λ lt. lt)
        (le-or-lt (turn_limit true F) m)
