-- What a search promises (specs/Promises.antt) holds of what the definition hands back: a call is refused before any
-- page, or its map is a sound net and the laws of the net speak of it. The tables' first N entries are those of the
-- net's search, and the list's first entries its page list.
use Rattle.common.proofs.Ground.{◌≡◌, refl, ap, sym, subst, ◌∙◌, Bool, true, false, List, Memᴰ, ℕ}
use Rattle.common.proofs.Ground.{◌≤◌, arith, length, take}
use Rattle.common.specs.Costs.{NoMore}
use Rattle.common.specs.Chains.{ChainsEnd}
use Rattle.common.specs.Window.{placed}
use Rattle.common.proofs.Cases.{never}
use Rattle.common.proofs.Windows.{placed_window}
use Rattle.net.specs.Net.{Frame, frame}
use Rattle.net.specs.Search as net
use Rattle.net.specs.Search.{State, Halt, going, time_table, move_table, reached, plain_search, df_search}
use Rattle.net.specs.Demands.{time_at, moves_at}
use Rattle.net.specs.Run.{search_of}
use Rattle.net.proofs.Chains.{chains_end}
use Rattle.net.proofs.Laws.{same_halt, df_list}
use Rattle.net.proofs.Ways.{same_tables, same_reached, fewer_moves_no_more}
use Rattle.image.specs.Bytes.{Bytes}
use Rattle.image.specs.Image.{Outcome, accepted, refused, on_page, station_count}
use Rattle.image.specs.Image.{AgreeOnHeading, AgreeOnDirectory, AgreeOnPage}
use Rattle.image.proofs.Agree.{stations_agree, heading_agrees}
use Rattle.page.proofs.Agree.{reading_agrees}
use Rattle.map.specs.Map.{offered, map_page}
use Rattle.map.proofs.Offered.{goes_shorter}
use Rattle.reply.specs.Reply.{Query, with_image, with_strip, frame_of, pages_of, Lent, Handed, ended}
use Rattle.reply.specs.Reply.{too_short, call_check, on_map, after_check, searched, list_of}
use Rattle.search.specs.Promises.{SameLengths, firsts, TimesAreLeast, ChainsEndAtSource, PageIsFirstBad}
use Rattle.search.specs.Promises.{ListAgainstDijkstra, Promised, DfPromised}
use Rattle.reply.proofs.Checking.{Admitted, Decided, turned_down, passed, decided, passes}
use Rattle.reply.proofs.Searches.{found, local_of, size_of, few_stations, sound_of, least_costs_of, least_of}
use Rattle.reply.proofs.Searches.{refused-of}

-- the front that was written
front_of : (table entries : List ℕ) (n : ℕ) → length entries ≡ n → take n (placed table 0 entries) ≡ entries
front_of table entries n e = rw (← e) (placed_window table 0 entries (omega arith))

-- What a search that has ended hands back: its list is the page list, and its outcome says how the search halted.
module _ (F : Frame) (s : State) (t : Lent) where
  listed : (h : Halt) → list_of (ended h F s t) ≡ s.pages
  listed going = front_of t.list s.pages (length s.pages) refl
  listed (net.refused number p offset) = front_of t.list s.pages (length s.pages) refl

  over : (h : Halt) → (ended h F s t).reply.outcome ≡ accepted → h ≡ going
  over going e = refl
  over (net.refused number p offset) e = never (cc)

  stopped : (h : Halt) (number p offset : ℕ) → (ended h F s t).reply.outcome ≡ refused number (on_page p offset)
      → h ≡ net.refused number p offset
  stopped going number p offset e = never (cc)
  stopped (net.refused n b o) number p offset e = cc

module _ (q : Query) (t : Lent) (a : Admitted q t) (bytes : Bytes q.image) where
  -- what an accepted search hands back: in the tables' fronts are its times, moves and predecessors
  accepted_as : (df : Bool) (other : Lent) → (found q df).halt ≡ going
      → on_map (search_of df) q other ≡ ended going (frame_of q) (found q df) other
  unfolding on_map
  accepted_as df other g = ap (λ h. ended h (frame_of q) (found q df) other) g

  fronts : (df : Bool) (other : Lent) → (found q df).halt ≡ going
      → (firsts q (placed other.times 0 (time_table (found q df))) ≡ time_table (found q df))
      × (firsts q (placed other.moves 0 (move_table (found q df))) ≡ move_table (found q df))
      × (firsts q (placed other.preds 0 (found q df).preds) ≡ (found q df).preds)
  fronts df other g =
      let sizes = (least_of q t a bytes df g).sizes in (
        front_of _ _ _ (sizes.0 ∙ size_of q t a),
        front_of _ _ _ (sizes.1 ∙ size_of q t a),
        front_of _ _ _ (sizes.2 ∙ size_of q t a),
      )

  over_on_map : (df : Bool) → (on_map (search_of df) q t).reply.outcome ≡ accepted → (found q df).halt ≡ going
  unfolding on_map
  over_on_map df = over (frame_of q) (found q df) t (found q df).halt

  -- demand 2
  least_on_map : (df : Bool) → TimesAreLeast q (on_map (search_of df) q t)
  least_on_map df e =
      let g = over_on_map df e in
      rw (accepted_as df t g, (fronts df t g).0, (fronts df t g).1, (fronts df t g).2) (least_of q t a bytes df g)

  -- C-15
  chains_on_map : (df : Bool) → ChainsEndAtSource q (on_map (search_of df) q t)
  chains_on_map df e =
      subst (λ n. ChainsEnd n q.source (firsts q (on_map (search_of df) q t).tables.preds)) (size_of q t a)
      (chains_end (frame_of q) (pages_of q) q.source (omega (arith, few_stations q t a)) (least_on_map df e))

  -- which page is refused
  refused_on_map : (df : Bool) → PageIsFirstBad q (on_map (search_of df) q t)
  unfolding on_map
  refused_on_map df number p offset e =
      let s = found q df in
      let halted = stopped (frame_of q) s t s.halt number p offset e in
      let f = refused-of q t a bytes df number p offset halted in
      (f.0, (f.1.0, listed (frame_of q) s t s.halt ∙ f.1.1))

  -- demand 3, our list against Dijkstra's
  dijkstras : (other : Lent) → SameLengths t other → searched plain_search q other ≡ on_map plain_search q other
  unfolding searched
  dijkstras other same =
      let long : too_short (station_count q.image) other ≡ false =
      rw (← same.times, ← same.moves, ← same.preds, ← same.marks, ← same.list) a.long in
      rw (passes q other (record { heading = a.heading; inside = a.inside; long = long }))

  list_on_map : ListAgainstDijkstra q t (on_map df_search q t)
  list_on_map e other same =
      let g = over_on_map true e in
      let ok = sound_of q t a bytes in
      let g' = same_halt (frame_of q) (pages_of q) q.source ok ∙ g in
      let tables = same_tables (frame_of q) (pages_of q) q.source ok g in
      let ours = fronts true t g in
      let theirs = fronts false other g' in
      rw (accepted_as true t g, dijkstras other same, accepted_as false other g') (record {
        accepts = refl;
        reached = same_reached (frame_of q) (pages_of q) q.source ok g;
        times = ours.0 ∙ sym tables.0 ∙ sym theirs.0;
        moves = ours.1 ∙ sym tables.1 ∙ sym theirs.1;
        preds = ours.2 ∙ sym tables.2 ∙ sym theirs.2;
        lists =
            rw (listed (frame_of q) (found q true) t going, listed (frame_of q) (found q false) other going)
            (df_list (frame_of q) (pages_of q) q.source ok g);
      })

-- demand 3, two images
module _ (df : Bool) (q : Query) (t : Lent) (other : List ℕ) (lengths : length q.image ≡ length other)
    (heading : AgreeOnHeading q.image other) (directory : AgreeOnDirectory q.image other) where
  check_agrees : call_check q t ≡ call_check (with_image other q) t
  unfolding call_check
  check_agrees =
      rw (heading_agrees q.image other lengths heading directory, stations_agree q.image other heading)

  on_map_agrees : ((p : ℕ) → Memᴰ p (found q df).pages → AgreeOnPage p q.image other)
      → on_map (search_of df) q t ≡ on_map (search_of df) (with_image other q) t
  unfolding on_map map_page
  on_map_agrees agree =
      let same = local_of df (frame_of q) (pages_of q) (map_page q.strip other) q.source
      (λ p m. ap (offered q.strip) (reading_agrees q.image other p directory (agree p m))) in
      let search : Frame → State = λ G. search_of df G (map_page q.strip other) q.source in
      ap (λ (s : State). ended s.halt (frame_of q) s t) same ∙
      ap (λ d. ended (search (frame d)).halt (frame d) (search (frame d)) t) directory

  by_check : (o : Outcome)
      → ((p : ℕ) → Memᴰ p (list_of (after_check (search_of df) q t o)) → AgreeOnPage p q.image other)
      → after_check (search_of df) q t o ≡ after_check (search_of df) (with_image other q) t o
  unfolding on_map
  by_check (refused number place) agree = refl
  by_check accepted agree =
      on_map_agrees (λ p m. agree p (rw (listed (frame_of q) (found q df) t (found q df).halt) m))

  pub images_agree : ((p : ℕ) → Memᴰ p (list_of (searched (search_of df) q t)) → AgreeOnPage p q.image other)
      → searched (search_of df) q t ≡ searched (search_of df) (with_image other q) t
  unfolding searched
  images_agree agree =
      by_check (call_check q t) agree ∙ ap (after_check (search_of df) (with_image other q) t) check_agrees

-- Two lengths: what is offered to the longer strip is offered to the shorter one too, so that no station has less time,
-- nor as much in fewer moves, for the longer one.
abbrev pub NoMoreThan : Query → Handed → Handed → Type 0
NoMoreThan q shorter longer =
    (v : ℕ)
    → NoMore (time_at (firsts q shorter.tables.times) v) (moves_at (firsts q shorter.tables.moves) v)
    (time_at (firsts q longer.tables.times) v) (moves_at (firsts q longer.tables.moves) v)

no_more_on_map : (df : Bool) (q : Query) (t : Lent) (a : Admitted q t) (bytes : Bytes q.image) (strip : ℕ)
    → strip ≤ q.strip → (other : Lent) → Admitted (with_strip strip q) other
    → (on_map (search_of df) q t).reply.outcome ≡ accepted
    → (on_map (search_of df) (with_strip strip q) other).reply.outcome ≡ accepted
    → NoMoreThan q (on_map (search_of df) (with_strip strip q) other) (on_map (search_of df) q t)
no_more_on_map df q t a bytes strip less other a' e e' v =
    let short = with_strip strip q in
    let g = over_on_map q t a bytes df e in
    let g' = over_on_map short other a' bytes df e' in
    rw (
      accepted_as q t a bytes df t g,
      accepted_as short other a' bytes df other g',
      (fronts q t a bytes df t g).0,
      (fronts q t a bytes df t g).1,
      (fronts short other a' bytes df other g').0,
      (fronts short other a' bytes df other g').1,
    )
    (fewer_moves_no_more (frame_of q) (pages_of short) (pages_of q) q.source (goes_shorter q.image less) refl
    (least_costs_of short other a' bytes df g') (least_costs_of q t a bytes df g) v)

-- All promises, by what 1 to 7 decide.
module _ (q : Query) (t : Lent) (bytes : Bytes q.image) where
  either_search : (df : Bool) (o : Outcome) → Decided q t o
      → TimesAreLeast q (after_check (search_of df) q t o) × ChainsEndAtSource q (after_check (search_of df) q t o)
      × PageIsFirstBad q (after_check (search_of df) q t o)
  either_search df o (turned_down number place k) = (
    λ e. never (cc),
    λ e. never (cc),
    λ n p at e. let same : place ≡ on_page p at = cc in absurd (rw same at k),
  )
  either_search df o (passed a) =
      (least_on_map q t a bytes df, chains_on_map q t a bytes df, refused_on_map q t a bytes df)

  no_more : (df : Bool) (o : Outcome) → Decided q t o → (after_check (search_of df) q t o).reply.outcome ≡ accepted
      → (strip : ℕ) (other : Lent) → strip ≤ q.strip
      → (searched (search_of df) (with_strip strip q) other).reply.outcome ≡ accepted
      → NoMoreThan q (searched (search_of df) (with_strip strip q) other) (after_check (search_of df) q t o)
  unfolding searched
  no_more df o (turned_down number place k) e strip other less = never (cc)
  no_more df o (passed a) e strip other less = by_check (call_check short other) (decided short other)
    where
      short : Query
      short = with_strip strip q

      by_check : (d : Outcome) → Decided short other d
          → (after_check (search_of df) short other d).reply.outcome ≡ accepted
          → NoMoreThan q (after_check (search_of df) short other d) (on_map (search_of df) q t)
      by_check d (turned_down number place k) e' = never (cc)
      by_check d (passed a') e' = no_more_on_map df q t a bytes strip less other a' e e'

  -- C-11's clause speaks of times; this law, of moves too.
  pub longer_no_more : (df : Bool) → (searched (search_of df) q t).reply.outcome ≡ accepted
      → (strip : ℕ) (other : Lent) → strip ≤ q.strip
      → (searched (search_of df) (with_strip strip q) other).reply.outcome ≡ accepted
      → NoMoreThan q (searched (search_of df) (with_strip strip q) other) (searched (search_of df) q t)
  unfolding searched
  longer_no_more df = no_more df (call_check q t) (decided q t)

  list_of_lem : (o : Outcome) → Decided q t o → ListAgainstDijkstra q t (after_check df_search q t o)
  list_of_lem o (turned_down number place k) e = never (cc)
  list_of_lem o (passed a) e = list_on_map q t a bytes e

  pub promised_of : (df : Bool) (h : Handed) → h ≡ searched (search_of df) q t → Promised (search_of df) q t h
  unfolding searched
  promised_of df h is = rw is (record {
    outcome = refl;
    times = (either_search df (call_check q t) (decided q t)).0;
    chains = (either_search df (call_check q t) (decided q t)).1;
    refused = (either_search df (call_check q t) (decided q t)).2;
    images = images_agree df q t;
    lengths = λ e strip other less e' v. (no_more df (call_check q t) (decided q t) e strip other less e' v).0;
  })

  pub df_promised_of : (h : Handed) → h ≡ searched df_search q t → DfPromised q t h
  unfolding searched
  df_promised_of h is = record {
    promised = promised_of true h is;
    list = rw is (list_of_lem (call_check q t) (decided q t));
  }
