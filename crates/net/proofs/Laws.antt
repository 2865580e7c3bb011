-- The laws of both searches, for every net whose moves lead to stations, and any source in it. Each is stated of the
-- searches by the letter of document 01, in terms of costs (in terms of times and moves: Ways); the proofs are in the
-- other files, for the one comparison, and are carried over here by the first laws.
use Rattle.common.proofs.Ground.{◌≡◌, refl, sym, ◌∙◌, ⊎_elim, List, [], ◌∷◌, ◌++◌, Sublistᴰ, ℕ, ◌+◌, ◌≤◌, ◌<◌}
use Rattle.common.proofs.Ground.{arith, mul-le-mul_right, length, get_or, ltb, eqb}
use Rattle.common.proofs.Cases.{le-or-lt}
use Rattle.net.specs.declared.Choice.TheVariants.{Station, Nobody}
use Rattle.common.specs.Numbers.{no_time}
use Rattle.common.specs.Costs.{cost, no_cost}
use Rattle.net.specs.Net.{Move, Page, good, Frame, Goes, times_in, entry_stations}
use Rattle.net.specs.Net.{one_page_reads, count}
use Rattle.net.specs.Search.{State, going, refused, cost_of, pred_of, is_settled, is_fresh, settle, with_page, start}
use Rattle.net.specs.Search.{reached}
use Rattle.net.specs.Search.{choose, choose_on, iter, visit, work_turn, work_through, plain_visit, df_visit}
use Rattle.net.specs.Search.{none_or_less}
use Rattle.net.specs.Search.{step_by, search_by, plain_search, df_search}
use Rattle.net.specs.Demands.{ListOf, AgreeOn}
use Rattle.net.proofs.Sound.{Sound}
use Rattle.net.proofs.LeastCosts.{LeastCost, LeastCosts, FirstBad}
use Rattle.net.proofs.Fixed.{Among, walk_among, spells_walk}
use Rattle.net.specs.Ways.{after_plain, after_df, within_df, Held}
use Rattle.net.proofs.Basics.Count.{count-le}
use Rattle.net.proofs.Basics.Lists.{part_reads}
use Rattle.net.proofs.Relaxing.Relax.{Tables}
use Rattle.net.proofs.Relaxing.Labels.{Rooted, nearer_below_size, sum_below_none}
use Rattle.net.proofs.Steps.Choose.{Next}
use Rattle.net.proofs.Steps.Visits.{plain_settling, df_settling, ready_u, visited_u}
use Rattle.net.proofs.Steps.PageLoop.{Ready, stations_on, loop_keeps, loop_short, worked_through}
use Rattle.net.proofs.Searches.Start.{start_unsettled, start_stale}
use Rattle.net.proofs.Searches.Run.{Reached, chosen_next, run_ends}
use Rattle.net.proofs.Searches.Answer.{ended-least_costs}
use Rattle.net.proofs.Searches.Together.{plain_reached, df_reached, Together, together, together_choose}
use Rattle.net.proofs.Searches.Together.{chosen-least, chosen-rising}
use Rattle.net.proofs.Searches.OneComparison.{visit-one, turns_one, loop-one, plain_visit-one, df_visit-one}
use Rattle.net.proofs.Searches.OneComparison.{run_one}
use Rattle.net.proofs.PageLists.Often.{often_entered}
use Rattle.net.proofs.Local.{search_local, plain_visit_local, df_visit_local}

module _ (F : Frame) (page : ℕ → Page) (source : ℕ) (ok : Sound F page source) where
  abbrev plain : State
  plain = plain_search F page source

  abbrev df : State
  df = df_search F page source

  abbrev plain_at : ℕ → State
  plain_at = after_plain F page source

  abbrev df_at : ℕ → State
  df_at = after_df F page source

  -- "v has no time, or sum is less" is the one comparison "sum is less": no sum that relaxing forms reaches none.
  pub plain_steps_one_comparison : (n : ℕ) → plain_at n ≡ iter (step_by F (plain_visit F ltb page)) n (start F source)
  unfolding iter
  plain_steps_one_comparison = run_one ok is_settled (plain_visit F ltb page) (plain_visit F (none_or_less F) page)
      (plain_settling ok) (plain_reached ok 0) (plain_visit-one ok)

  pub df_steps_one_comparison : (n : ℕ) → df_at n ≡ iter (step_by F (df_visit F ltb page)) n (start F source)
  unfolding iter
  df_steps_one_comparison = run_one ok is_fresh (df_visit F ltb page) (df_visit F (none_or_less F) page)
      (df_settling ok) (df_reached ok 0) (df_visit-one ok)

  pub plain_one_comparison : plain ≡ search_by F (plain_visit F ltb page) source
  unfolding plain_search search_by
  plain_one_comparison = plain_steps_one_comparison F.size

  pub df_one_comparison : df ≡ search_by F (df_visit F ltb page) source
  unfolding df_search search_by
  df_one_comparison = df_steps_one_comparison F.size

  -- what holds of both after n steps
  plain_holds : (n : ℕ) → Reached ok is_settled (plain_at n)
  plain_holds n = rw (plain_steps_one_comparison n) (plain_reached ok n)

  df_holds : (n : ℕ) → Reached ok is_fresh (df_at n)
  df_holds n = rw (df_steps_one_comparison n) (df_reached ok n)

  both_hold : (n : ℕ) → Together ok (plain_at n) (df_at n)
  both_hold n = rw (plain_steps_one_comparison n, df_steps_one_comparison n) (together ok n)

  -- Sizes: an entry for each station, marks below 4, no cost above none; after any number of steps, and at the end.
  pub plain_steps_sizes : (n : ℕ) → Tables F (plain_at n)
  plain_steps_sizes n = (plain_holds n).tables

  pub df_steps_sizes : (n : ℕ) → Tables F (df_at n)
  df_steps_sizes n = (df_holds n).tables

  pub plain_sizes : Tables F plain
  unfolding plain_search search_by
  plain_sizes = plain_steps_sizes F.size

  pub df_sizes : Tables F df
  unfolding df_search search_by
  df_sizes = df_steps_sizes F.size

  -- Ends: after as many steps as there are stations nobody is left to choose.
  pub plain-ends : choose F plain ≡ Nobody
  unfolding plain_search search_by iter
  plain-ends = rw (plain_steps_one_comparison F.size)
      (run_ends ok is_settled (plain_visit F ltb page) (plain_settling ok) (start F source) (plain_reached ok 0))

  pub df_ends : choose F df ≡ Nobody
  unfolding df_search search_by iter
  df_ends = rw (df_steps_one_comparison F.size)
      (run_ends ok is_fresh (df_visit F ltb page) (df_settling ok) (start F source) (df_reached ok 0))

  -- What a station has is the cost of a walk of fewer moves than there are stations: no search forms another.
  rooted_held : (s : State) → Rooted ok (cost_of F s) (pred_of s) → Held F page source s
  rooted_held s rooted g v h =
      let root = rooted.root v h in
      let nearer = nearer_below_size F (cost_of F s) v (rooted.inside v h) in
      let near = rooted.near v h in
      let is = root.walk.is in
      let short : root.walk.time < no_time = omega (arith, mul-le-mul_right ok.longest nearer, ok.room) in
      (root.walk.time, root.walk.moves, root.walk.walk, (short, omega (arith, root.few)), is)

  pub plain_held : (n : ℕ) → Held F page source (plain_at n)
  plain_held n g = rooted_held (plain_at n) ((plain_holds n).inv g).labels.rooted g

  pub df_held : (n : ℕ) → Held F page source (df_at n)
  df_held n g = rooted_held (df_at n) ((df_holds n).inv g).labels.rooted g

  -- The page loop ends: it leaves no station of its page that has a time and is stale, and it takes no more turns
  -- than the page has stations. Stated of the loop that `df_search` runs, where it runs it: for the station chosen after
  -- n steps, on a good page.
  module _ (n u : ℕ) (moves : ℕ → List Move) (chosen : choose F (df_at n) ≡ Station u)
      (is : page (F.page_of u) ≡ good moves) where
    abbrev referred : State
    referred = with_page (F.page_of u) (settle u (df_at n))

    abbrev pub in_hand : State
    in_hand = visit F (none_or_less F) moves u referred

    going_on : (df_at n).halt ≡ going
    going_on = (chosen_next ok is_fresh (df_at n) (df_holds n) u chosen).0

    next : Next F (df_at n) u
    next = (chosen_next ok is_fresh (df_at n) (df_holds n) u chosen).1

    in_hand_one : in_hand ≡ visit F ltb moves u referred
    in_hand_one = visit-one ok (F.page_of u) moves is u referred (ready_u ok u (df_at n) ((df_holds n).inv going_on) next)
        refl next.timed

    in_hand_ready : Ready ok in_hand
    in_hand_ready = rw in_hand_one (visited_u ok u (df_at n) ((df_holds n).inv going_on) next moves is).ready

    pub page_loop_held : (j : ℕ) → Held F page source (within_df F page source n u moves j)
    page_loop_held j =
        let k = loop_keeps ok (F.page_of u) moves is (λ t. Unit {0}) (λ r x a b m. tt) j in_hand in_hand_ready tt in
        rw (turns_one ok (F.page_of u) moves is j in_hand in_hand_ready)
        (rooted_held (iter (work_turn F ltb (F.page_of u) moves) j in_hand) k.0.labels.rooted)

    pub page_loop_ends : choose_on F (F.page_of u) (work_through F (none_or_less F) (F.page_of u) moves in_hand) ≡ Nobody
    page_loop_ends = rw (loop-one ok (F.page_of u) moves is in_hand in_hand_ready)
        (worked_through ok (F.page_of u) moves is in_hand in_hand_ready)

    pub page_loop_turns : work_through F (none_or_less F) (F.page_of u) moves in_hand
        ≡ iter (work_turn F (none_or_less F) (F.page_of u) moves) (count (λ v. eqb (F.page_of v) (F.page_of u)) F.size)
        in_hand
    unfolding stations_on
    page_loop_turns =
        let turns = count (λ v. eqb (F.page_of v) (F.page_of u)) F.size in
        loop-one ok (F.page_of u) moves is in_hand in_hand_ready
        ∙ loop_short ok (F.page_of u) moves is in_hand in_hand_ready
        ∙ sym (turns_one ok (F.page_of u) moves is turns in_hand in_hand_ready)

  -- Demand 2, of costs.
  pub plain_least_costs : plain.halt ≡ going → LeastCosts F page source plain.costs plain.preds (reached F plain)
  unfolding plain_search search_by
  plain_least_costs g = ended-least_costs ok is_settled plain ((plain_holds F.size).inv g) g plain-ends

  pub df_least_costs : df.halt ≡ going → LeastCosts F page source df.costs df.preds (reached F df)
  unfolding df_search search_by
  df_least_costs g = ended-least_costs ok is_fresh df ((df_holds F.size).inv g) g df_ends

  -- Both searches accept or are refused alike.
  pub same_halt : plain.halt ≡ df.halt
  unfolding plain_search df_search search_by
  same_halt = (both_hold F.size).halt

  -- Which page is refused; it stands last in the list.
  pub plain_first_bad : (number p offset : ℕ) → plain.halt ≡ refused number p offset
      → FirstBad F page source number p offset × ((before : List ℕ) × (plain.pages ≡ before ++ (p ∷ [])))
  unfolding plain_search search_by
  plain_first_bad = (plain_holds F.size).told

  pub df_first_bad : (number p offset : ℕ) → df.halt ≡ refused number p offset
      → FirstBad F page source number p offset × ((before : List ℕ) × (df.pages ≡ before ++ (p ∷ [])))
  unfolding df_search search_by
  df_first_bad = (df_holds F.size).told

  -- Order: after the same number of steps both searches choose alike and have settled the same stations; whoever is
  -- chosen has its least cost over walks; and stations are chosen in rising order of least cost, then number.
  pub same_choice : (n : ℕ) → choose F (plain_at n) ≡ choose F (df_at n)
  same_choice n = together_choose ok (plain_at n) (df_at n) (both_hold n)

  pub same_settled : (n x : ℕ) → is_settled (df_at n) x ≡ is_settled (plain_at n) x
  same_settled n = (both_hold n).settled

  pub plain_chosen-least : (n u : ℕ) → choose F (plain_at n) ≡ Station u
      → LeastCost F page source u (cost_of F (plain_at n) u)
  plain_chosen-least n = rw (plain_steps_one_comparison n)
      (chosen-least ok is_settled (plain_visit F ltb page) (plain_settling ok) (start_unsettled ok) n)

  pub df_chosen-least : (n u : ℕ) → choose F (df_at n) ≡ Station u → LeastCost F page source u (cost_of F (df_at n) u)
  df_chosen-least n = rw (df_steps_one_comparison n)
      (chosen-least ok is_fresh (df_visit F ltb page) (df_settling ok) (start_stale ok) n)

  pub chosen_in_order : (j k u v c d : ℕ) → j < k → choose F (df_at j) ≡ Station u → choose F (df_at k) ≡ Station v
      → LeastCost F page source u c → LeastCost F page source v d → (c ≤ d) × (d ≤ c → u < v)
  chosen_in_order j k = rw (df_steps_one_comparison j, df_steps_one_comparison k)
      (chosen-rising ok is_fresh (df_visit F ltb page) (df_settling ok) (start_stale ok) j k)

  -- Demand 3. Its parts hold at a page refusal too.
  pub list_part : Sublistᴰ df.pages plain.pages
  unfolding plain_search df_search search_by
  list_part = (both_hold F.size).part

  pub list_reads : one_page_reads df.pages ≤ one_page_reads plain.pages
  list_reads = part_reads list_part

  pub list_often : (p : ℕ) → times_in p df.pages ≤ entry_stations F page source df.pages p
  unfolding df_search search_by
  list_often p = rw (df_steps_one_comparison F.size) (often_entered ok F.size p)

  pub plain_short : length plain.pages ≤ F.size
  unfolding plain_search search_by
  plain_short = omega (arith, (plain_holds F.size).short, count-le (is_settled plain) F.size)

  pub df_short : length df.pages ≤ F.size
  unfolding df_search search_by
  df_short = omega (arith, (df_holds F.size).short, count-le (is_settled df) F.size)

  pub df_list : df.halt ≡ going → ListOf F page source df.pages plain.pages
  df_list g = record { part = list_part; often = list_often; reads = list_reads; short = df_short }

  -- The sum of a station's cost and a move's stays below none, after any number of steps of either search.
  pub plain_sum_below_none : (n u v w : ℕ) → (plain_at n).halt ≡ going → cost_of F (plain_at n) u < F.none
      → Goes F page u v w
      → cost_of F (plain_at n) u + cost w 1 < F.none
  plain_sum_below_none n u v w g = sum_below_none ok (cost_of F (plain_at n)) (pred_of (plain_at n))
      ((plain_holds n).inv g).labels.rooted u v w

  pub df_sum_below_none : (n u v w : ℕ) → (df_at n).halt ≡ going → cost_of F (df_at n) u < F.none → Goes F page u v w
      → cost_of F (df_at n) u + cost w 1 < F.none
  df_sum_below_none n u v w g = sum_below_none ok (cost_of F (df_at n)) (pred_of (df_at n))
      ((df_holds n).inv g).labels.rooted u v w

-- The room that a map has: 2,048 stations, and moves of up to 65,535 tenths of a second.
pub map_sound : (F : Frame) (page : ℕ → Page) (source : ℕ) → F.size ≤ 2048 → F.none ≡ no_cost → source < F.size
    → ((u v w : ℕ) → Goes F page u v w → (w ≤ 65535) × (v < F.size)) → Sound F page source
map_sound F page source few none inside fits = record {
  longest = cost 65535 1;
  moves = λ u v w g. (omega (arith, (fits u v w g).0), (fits u v w g).1);
  source_in = inside;
  none = none;
  few = omega arith;
  room = omega (arith, mul-le-mul_right (cost 65535 1) few);
}

-- Fewer moves: where every move of one net is a move of another, no station has a lesser cost in the first.
module _ (F : Frame) (page fewer : ℕ → Page) (source : ℕ) (among : Among F fewer F page) where
  pub fewer_moves_no_less : {costs preds later others : List ℕ} {r s : ℕ} → LeastCosts F page source costs preds r
      → LeastCosts F fewer source later others s → (v : ℕ) → get_or costs v F.none ≤ get_or later v F.none
  fewer_moves_no_less {costs} {later = later} all few v =
      ⊎_elim
      (λ none.
      let is = few.untimed v none in
      ⊎_elim (λ also. omega (arith, is.0, (all.untimed v also).0)) (λ has. omega (arith, is.0))
      (le-or-lt F.none (get_or costs v F.none)))
      (λ has.
      let l = few.spells v has in
      let le = all.least v l.time l.moves (walk_among among (spells_walk F fewer source l.spells)) in
      omega (arith, l.is))
      (le-or-lt F.none (get_or later v F.none))

-- Locality: two nets that agree on the pages listed by the first one's search get the same result in every part,
-- accepted or refused. For any nets.
module _ (F : Frame) (page other : ℕ → Page) (source : ℕ) where
  pub plain_local : AgreeOn (plain_search F page source).pages page other
      → plain_search F page source ≡ plain_search F other source
  unfolding plain_search
  plain_local = search_local F page other (plain_visit F (none_or_less F) page) (plain_visit F (none_or_less F) other)
      (plain_visit_local F page other (none_or_less F)) source

  pub df_local : AgreeOn (df_search F page source).pages page other → df_search F page source ≡ df_search F other source
  unfolding df_search
  df_local = search_local F page other (df_visit F (none_or_less F) page) (df_visit F (none_or_less F) other)
      (df_visit_local F page other (none_or_less F)) source
