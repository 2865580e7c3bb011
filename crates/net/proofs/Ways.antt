-- The laws of times and moves, as the demands have them, from those of costs (Laws). A station's least cost is that of
-- a walk of fewer moves than there are stations; so its parts are the walk's time and moves, and one move more is in
-- order too. By induction along any walk, those that repeat stations included, the pair of its end is no more than the
-- walk's. Whether pages are bad does not matter to walks: the search is asked of the net in which bad pages are empty.
use Rattle.common.proofs.Ground.{◌≡◌, refl, sym, ◌∙◌, false, ⊎_elim, List, [], ◌∷◌, ◌++◌, map, ℕ, suc, ◌+◌, ◌*◌}
use Rattle.common.proofs.Ground.{◌≤◌, ◌<◌, arith, mul-le-mul_right, get_or, ltb, lt-ltb, le-ltb}
use lib.ListN.{length-map, get_or-map}
use Rattle.common.proofs.Cases.{le-or-lt, never}
use Rattle.common.proofs.Costs.{costs_order, numbers_order}
use Rattle.common.specs.Numbers.{no_time}
use Rattle.common.specs.Costs.{NoMore, cost, time_in, moves_in, no_cost}
use Rattle.net.specs.Net.{Page, good, bad, Frame, is_good, moves_of, Walk, here, onward}
use Rattle.net.specs.Search.{State, Halt, going, refused, time_table, move_table, plain_search, df_search, reached}
use Rattle.net.specs.Demands.{time_at, moves_at, LeastTimes, RefusedPage}
use Rattle.net.specs.Ways.{Fits, LeastWalk, OneNumber}
use Rattle.net.proofs.Sound.{Sound}
use Rattle.net.proofs.LeastCosts.{LeastCost, Spelled, LeastCosts, FirstBad}
use Rattle.net.proofs.Basics.Count.{count_same}
use Rattle.net.proofs.Fixed.{more_more, onward_more, Among, walk_among, spells_walk, itself}
use Rattle.net.proofs.Fixed.{least_times_fix}
use Rattle.net.proofs.Laws.{plain_least_costs, df_least_costs, plain_first_bad, df_first_bad, plain_held}
use Rattle.net.proofs.Laws.{df_held, page_loop_held, same_halt, same_choice, chosen_in_order}
use Rattle.net.proofs.Laws.{fewer_moves_no_less}

-- A net in which bad pages are good ones without moves has the same walks, and no search of it is refused.
closed : Page → Page
closed (good moves) = good moves
closed (bad number offset) = good (λ u. [])

closed_moves : (content : Page) (u : ℕ) → moves_of (closed content) u ≡ moves_of content u
unfolding closed
closed_moves (good moves) u = refl
closed_moves (bad number offset) u = refl

closed_good : (content : Page) (number offset : ℕ) → closed content ≡ bad number offset → ⊥
unfolding closed
closed_good (good moves) number offset e = never (cc)
closed_good (bad n o) number offset e = never (cc)

module _ (F : Frame) (page : ℕ → Page) (source : ℕ) (ok : Sound F page source) where
  abbrev shut : ℕ → Page
  shut p = closed (page p)

  goes_shut : Among F page F shut
  goes_shut u v w g = rw (closed_moves (page (F.page_of u)) u) g

  goes_open : Among F shut F page
  goes_open u v w g = rw (closed_moves (page (F.page_of u)) u) at g

  shut_sound : Sound F shut source
  shut_sound = record {
    longest = ok.longest;
    moves = λ u v w g. ok.moves u v w (goes_open u v w g);
    source_in = ok.source_in;
    none = ok.none;
    few = ok.few;
    room = ok.room;
  }

  abbrev found : State
  found = plain_search F shut source

  never_refused : found.halt ≡ going
  never_refused = by_halt found.halt refl
    where
      by_halt : (h : Halt) → found.halt ≡ h → found.halt ≡ going
      by_halt going e = e
      by_halt (refused number p offset) e =
          let refusal = (plain_first_bad F shut source shut_sound number p offset e).0 in
          absurd (closed_good (page p) number offset refusal.why)

  costs : LeastCosts F shut source found.costs found.preds (reached F found)
  costs = plain_least_costs F shut source shut_sound never_refused

  abbrev Best : ℕ → Type 0
  Best v = Spelled F shut source found.preds v (get_or found.costs v F.none)

  best : {v t m : ℕ} → Walk F shut source v t m → Best v
  best {v} {t} {m} k = costs.spells v (costs.timed v t m k)

  no_walk_less : {v t m : ℕ} → Walk F shut source v t m → (b : Best v) → NoMore b.time b.moves t m
  no_walk_less here b =
      let le = costs.least source 0 0 here in
      (omega (arith, b.is), λ e. omega (arith, b.is))
  no_walk_less (onward {u = u} {t = t} {m = m} v w k g) b =
      let a = best k in
      let le = costs.least v (a.time + w) (suc a.moves) (onward v w (spells_walk F shut source a.spells) g) in
      more_more
      (costs_order.ordered b.time b.moves (a.time + w) (suc a.moves) (omega (arith, b.few, ok.few))
      (omega (arith, a.few, ok.few)) (omega (arith, b.is)))
      (onward_more w (no_walk_less k a))

  -- A walk of fewer moves than there are stations takes less than the time that stands for none.
  walk_within : {v t m : ℕ} → Walk F page source v t m → cost t m ≤ m * ok.longest
  walk_within here = omega arith
  walk_within (onward {u = u} v w k g) = omega (arith, walk_within k, (ok.moves u v w g).0)

  fits : {v t m : ℕ} → Walk F page source v t m → m < F.size → Fits F page source t m
  fits k few =
      let within = walk_within k in
      (omega (arith, mul-le-mul_right ok.longest few, ok.room), few)

  pub least_walk : (v t m : ℕ) → Walk F page source v t m → (u n : ℕ) × LeastWalk F page source v u n
  least_walk v t m k =
      let b = best (walk_among goes_shut k) in
      let own = walk_among goes_open (spells_walk F shut source b.spells) in (
        b.time,
        b.moves,
        record {
          walk = own;
          fits = fits own b.few;
          least = λ u n j. no_walk_less (walk_among goes_shut j) b;
          cheapest = λ u n j. omega (arith, b.is, costs.least v u n (walk_among goes_shut j));
        },
      )

  pub one_number : OneNumber F page source
  one_number = record {
    least = least_walk;
    plain = plain_held F page source ok;
    df = df_held F page source ok;
    turns = λ k u j moves chosen is. page_loop_held F page source ok k u moves chosen is j;
    alike = same_choice F page source ok;
    rising = λ j k u v t m x n before first second a b.
        let up = chosen_in_order F page source ok j k u v (cost t m) (cost x n) before first second (least-cost a)
        (least-cost b) in (
          costs_order.ordered t m x n (omega (arith, a.fits.1, ok.few)) (omega (arith, b.fits.1, ok.few))
              up.0,
          λ e f. up.1 (omega (arith, e, f)),
        );
  }
    where
      least-cost : {v t m : ℕ} → LeastWalk F page source v t m → LeastCost F page source v (cost t m)
      least-cost l = record {
        walk = record { time = _; moves = _; walk = l.walk; is = refl };
        least = l.cheapest;
      }

  -- Demand 2, from costs to times and moves.
  module _ (costs preds : List ℕ) (reached : ℕ) (c : LeastCosts F page source costs preds reached) where
    abbrev held : ℕ → ℕ
    held v = get_or costs v F.none

    abbrev times : List ℕ
    times = map time_in costs

    abbrev moves : List ℕ
    moves = map moves_in costs

    time_is : (v : ℕ) → time_at times v ≡ time_in (held v)
    time_is v = rw ok.none (get_or-map time_in costs v _)

    moves_is : (v : ℕ) → moves_at moves v ≡ moves_in (held v)
    moves_is v = rw ok.none (get_or-map moves_in costs v _)

    -- the numbers of a station that has a cost
    parts : (v : ℕ) (s : Spelled F page source preds v (held v))
        → (time_at times v ≡ s.time) × (moves_at moves v ≡ s.moves) × (s.time < no_time)
    parts v s = (
      omega (arith, time_is v, s.is, s.few, ok.few),
      omega (arith, moves_is v, s.is, s.few, ok.few),
      (fits (spells_walk F page source s.spells) s.few).0,
    )

    has_time_lem : (v : ℕ) → held v < F.none → time_at times v < no_time
    has_time_lem v h = let p = parts v (c.spells v h) in omega (arith, p.0, p.2)

    has_cost : (v : ℕ) → time_at times v < no_time → held v < F.none
    has_cost v h = ⊎_elim (λ le. absurd (omega (arith, time_is v, (c.untimed v le).0, ok.none))) (λ lt. lt)
        (le-or-lt F.none (held v))

    same_test : (v : ℕ) → ltb (held v) F.none ≡ ltb (time_at times v) no_time
    same_test v = ⊎_elim
        (λ le. rw (le-ltb (held v) F.none le)
        (sym (le-ltb (time_at times v) no_time (omega (arith, time_is v, ok.none)))))
        (λ lt. rw (lt-ltb (held v) F.none lt) (sym (lt-ltb (time_at times v) no_time (has_time_lem v lt))))
        (le-or-lt F.none (held v))

    pub least_times : LeastTimes F page source times moves preds reached
    least_times = record {
      sizes = (length-map costs time_in ∙ c.sizes.0, length-map costs moves_in ∙ c.sizes.0, c.sizes.1);
      walk = λ v h.
          let s = c.spells v (has_cost v h) in
          let p = parts v s in
          rw (p.0, p.1) (spells_walk F page source s.spells);
      least = λ v t m k.
          let s = c.spells v (c.timed v t m k) in
          let p = parts v s in
          let l = least_walk v t m k in
          let le = c.least v l.0 l.1 l.2.walk in
          rw (p.0, p.1)
          (more_more
          (costs_order.ordered s.time s.moves l.0 l.1 (omega (arith, s.few, ok.few))
          (omega (arith, l.2.fits.1, ok.few)) (omega (arith, s.is)))
          (l.2.least t m k));
      timed = λ v t m k. has_time_lem v (c.timed v t m k);
      pages_good = c.pages_good;
      untimed = λ v h.
          let none : F.none ≤ held v =
          ⊎_elim (λ le. le) (λ lt. absurd (omega (arith, has_time_lem v lt))) (le-or-lt F.none (held v)) in
          let is = c.untimed v none in
          (omega (arith, time_is v, is.0, ok.none), omega (arith, moves_is v, is.0, ok.none), is.1);
      spells = λ v h.
          let s = c.spells v (has_cost v h) in
          let p = parts v s in
          rw (p.0, p.1) (s.few, s.spells);
      lowest = λ u v w ne g e f.
          c.lowest u v w ne g (omega (arith, time_is u, time_is v, moves_is u, moves_is v));
      count = c.count ∙ count_same _ _ F.size (λ v l. same_test v);
    }

  pub plain_least_times : (plain_search F page source).halt ≡ going
      → LeastTimes F page source (time_table (plain_search F page source)) (move_table (plain_search F page source))
      (plain_search F page source).preds (reached F (plain_search F page source))
  plain_least_times g = least_times _ _ _ (plain_least_costs F page source ok g)

  pub df_least_times : (df_search F page source).halt ≡ going
      → LeastTimes F page source (time_table (df_search F page source)) (move_table (df_search F page source))
      (df_search F page source).preds (reached F (df_search F page source))
  df_least_times g = least_times _ _ _ (df_least_costs F page source ok g)

  -- Both searches leave the same times, moves and predecessors, as demand 2 fixes them.
  pub same_tables : (df_search F page source).halt ≡ going
      → (time_table (plain_search F page source) ≡ time_table (df_search F page source))
      × (move_table (plain_search F page source) ≡ move_table (df_search F page source))
      × ((plain_search F page source).preds ≡ (df_search F page source).preds)
  same_tables g =
      let fixed = least_times_fix (itself F page) (plain_least_times (same_halt F page source ok ∙ g))
      (df_least_times g) in
      (fixed.0, fixed.1, fixed.2)

  pub same_reached : (df_search F page source).halt ≡ going
      → reached F (plain_search F page source) ≡ reached F (df_search F page source)
  same_reached g =
      (least_times_fix (itself F page) (plain_least_times (same_halt F page source ok ∙ g)) (df_least_times g)).3

  -- Which page is refused, from costs to times and moves.
  refused_page : (number p offset : ℕ) → FirstBad F page source number p offset
      → RefusedPage F page source number p offset
  refused_page number p offset b = record {
    station = b.station;
    time = own.0;
    moves = own.1;
    walk = own.2.walk;
    on = b.on;
    why = b.why;
    first = λ v t m k f.
        let other = least_walk v t m k in
        let after = b.first v other.0 other.1 other.2.walk f in
        let to_other = costs_order.ordered own.0 own.1 other.0 other.1
        (omega (arith, own.2.fits.1, ok.few)) (omega (arith, other.2.fits.1, ok.few))
        (omega (arith, same, after.0)) in
        let to_walk = other.2.least t m k in (
          more_more to_other to_walk,
          λ e d.
              let back = costs_order.order other.0 other.1 own.0 own.1
              (omega (arith, other.2.fits.1, ok.few)) (omega (arith, own.2.fits.1, ok.few))
              (omega (arith, to_walk.0), λ x. omega (arith, to_walk.1 (omega arith))) in
              after.1 (omega (arith, same)),
        );
  }
    where
      own : (u n : ℕ) × LeastWalk F page source b.station u n
      own = least_walk b.station b.walk.time b.walk.moves b.walk.walk

      bad_here : is_good (page (F.page_of b.station)) ≡ false
      bad_here = rw (b.on, b.why)

      same : b.held ≡ cost own.0 own.1
      same = omega (
        arith,
        b.walk.is,
        own.2.cheapest b.walk.time b.walk.moves b.walk.walk,
        (b.first b.station own.0 own.1 own.2.walk bad_here).0,
      )

  pub plain_refused : (number p offset : ℕ) → (plain_search F page source).halt ≡ refused number p offset
      → RefusedPage F page source number p offset
      × ((before : List ℕ) × ((plain_search F page source).pages ≡ before ++ (p ∷ [])))
  plain_refused number p offset e =
      let b = plain_first_bad F page source ok number p offset e in (refused_page number p offset b.0, b.1)

  pub df_refused : (number p offset : ℕ) → (df_search F page source).halt ≡ refused number p offset
      → RefusedPage F page source number p offset
      × ((before : List ℕ) × ((df_search F page source).pages ≡ before ++ (p ∷ [])))
  df_refused number p offset e =
      let b = df_first_bad F page source ok number p offset e in (refused_page number p offset b.0, b.1)

-- Fewer moves: where every move of one net is a move of another, a station's time and moves in the first are no less.
module _ (F : Frame) (page fewer : ℕ → Page) (source : ℕ)
    (among : Among F fewer F page) (none : F.none ≡ no_cost) where
  pub fewer_moves_no_more : {costs preds later others : List ℕ} {r s : ℕ} → LeastCosts F page source costs preds r
      → LeastCosts F fewer source later others s → (v : ℕ)
      → NoMore (time_at (map time_in costs) v) (moves_at (map moves_in costs) v) (time_at (map time_in later) v)
      (moves_at (map moves_in later) v)
  fewer_moves_no_more {costs} {later = later} all few v =
      let le = fewer_moves_no_less F page fewer source among all few v in
      rw (
        get_or-map time_in costs v no_cost,
        get_or-map moves_in costs v no_cost,
        get_or-map time_in later v no_cost,
        get_or-map moves_in later v no_cost,
      )
      (numbers_order (rw none at le))
