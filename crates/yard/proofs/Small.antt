-- How small the numbers of every outcome are: a list and the stations reached number at most 2,048, as does a route,
-- and records 12,240; and a fault stands at most at offset 256.
use Rattle.common.proofs.Ground.{◌≡◌, refl, ap, sym, ◌∙◌, subst, not, ◌+◌, ◌*◌, Bool, true, false, ◌||◌, List, [], ◌∷◌}
use Rattle.common.proofs.Ground.{ℕ, zero, suc, ◌≤◌, ◌<◌, arith, length}
use Rattle.common.proofs.Ground.{length-append, ltb, leb, eqb, ltb-false}
use Rattle.common.specs.Numbers.{source_mark, no_pred}
use Rattle.common.specs.Pick.{pick}
use Rattle.common.proofs.Cases.{by_pick}
use Rattle.net.specs.Net.{bad}
use Rattle.net.specs.Search as net
use Rattle.net.specs.Search.{State, Halt, going, reached, has_time}
use Rattle.net.specs.Run.{search_of}
use Rattle.net.proofs.Basics.Count.{count-le}
use Rattle.image.specs.Bytes.{Bytes}
use Rattle.image.specs.Image.{Outcome, accepted, refused, Place, nowhere, at_station, on_page, first_not_below}
use Rattle.image.specs.Image.{after_heading}
use Rattle.whole.specs.Check.{whole_check}
use Rattle.whole.proofs.Outcomes.{PlaceBy256, whole_by_256}
use Rattle.route.specs.Route as route
use Rattle.common.specs.Chains.{pred_at}
use Rattle.route.specs.Route.{Chain, whole, broken, lengthened, chain}
use Rattle.route.specs.Route.{found, no_route, fitted, outcome, handed_back, route_call}
use Rattle.map.proofs.Offered.{bad_page}
use Rattle.reply.specs.Reply.{Query, frame_of, pages_of, Lent, ended, call_check, on_map, after_check, searched}
use Rattle.reply.proofs.Checking.{NamesNoPage, Admitted, Decided, turned_down, passed, decided}
use Rattle.reply.proofs.Searches.{few_stations, refused-of, short_of}
use Rattle.move_record.specs.declared.MoveRecord.{MoveRecord}
use Rattle.roundtrip.specs.Records.{records_of, listing, read_check, listed, read_call}
use Rattle.roundtrip.specs.Written.{WriteOutcome, said, refused_record, refused_page, shape_check, rising, first_full}
use Rattle.roundtrip.specs.Written.{records_check, after_shape, write_check, writing, write_call}
use Rattle.roundtrip.specs.Promises.{ReadPromised, WritePromised}
use Rattle.ordering.specs.Order.{Order, first_less, equal, second_less, by_map, after_first, after_second, naming}
use Rattle.paging.specs.Store.{reads_from, unfit, replay}
use Rattle.paging.proofs.Most.{reads_most}
use Rattle.telling.specs.Numbers.{numbers, of_outcome, of_check, of_search, of_route, of_read, of_written, of_order}
use Rattle.telling.specs.Numbers.{of_replay, Small}

sized : (s c r p o : ℕ) → c ≤ 12240 → r ≤ 2048 → o ≤ 256 → Small (numbers s c r p o)
sized s c r p o few reached near = record { count = omega arith; reached = omega arith; offset = omega arith }

no_numbers : (s p : ℕ) → Small (numbers s 0 0 p 0)
no_numbers s p = sized s 0 0 p 0 (omega arith) (omega arith) (omega arith)

by_place : (o : Outcome) (count reached : ℕ) → count ≤ 12240 → reached ≤ 2048 → PlaceBy256 o
    → Small (of_outcome o count reached)
by_place accepted count reached few less k = sized 0 count reached 0 0 few less (omega arith)
by_place (refused number nowhere) count reached few less k = sized number count reached 0 0 few less (omega arith)
by_place (refused number (at_station station)) count reached few less k =
    sized number count reached station 0 few less (omega arith)
by_place (refused number (on_page p offset)) count reached few less k = sized number count reached p offset few less k

pub small_check : (image : List ℕ) → Small (of_check (whole_check image))
small_check image = by_place (whole_check image) 0 0 (omega arith) (omega arith) (whole_by_256 image)

-- The order of two maps: a refusal is that of either image's whole check.
pub small_order : (first second : List ℕ) → Small (of_order (naming first second))
unfolding naming
small_order first second =
    by_checks (whole_check first) (whole_check second) (whole_by_256 first) (whole_by_256 second) (by_map first second)
  where
    by_checks : (o also : Outcome) → PlaceBy256 o → PlaceBy256 also → (order : Order)
        → Small (of_order (after_first o (after_second also order)))
    by_checks (refused number place) also k l order =
        by_place (refused number place) 0 1 (omega arith) (omega arith) k
    by_checks accepted (refused number place) k l order =
        by_place (refused number place) 0 2 (omega arith) (omega arith) l
    by_checks accepted accepted k l first_less = sized 0 1 0 0 0 (omega arith) (omega arith) (omega arith)
    by_checks accepted accepted k l equal = no_numbers 0 0
    by_checks accepted accepted k l second_less = sized 0 2 0 0 0 (omega arith) (omega arith) (omega arith)

-- A replay: there are no more reads than entries, whose number has 64 bits.
pub small_replay : (list : List ℕ) (pages frames : ℕ) (distances : List ℕ) (threshold : ℕ)
    → length list < 18446744073709551616 → Small (of_replay (replay list pages frames distances threshold))
unfolding replay
small_replay list pages frames distances threshold few =
    let n = reads_from pages distances threshold frames [] list in
    by_pick (λ r. Small (of_replay r)) (eqb pages 0 || ltb 240 pages) (λ three. no_numbers 3 0) (λ p.
    by_pick (λ r. Small (of_replay r)) (unfit list pages frames distances) (λ unfit. no_numbers 23 0) (λ fit.
    let most : n < 18446744073709551616 = omega (arith, reads_most pages distances threshold frames [] list) in
    record { count = omega arith; reached = omega arith; offset = omega arith }))

-- An image as records: the whole check, then 7.
module _ (image : List ℕ) (list : List MoveRecord) where
  read_by_256 : PlaceBy256 (read_check image (length list))
  unfolding read_check
  read_by_256 = by_whole (whole_check image) (whole_by_256 image)
    where
      by_whole : (o : Outcome) → PlaceBy256 o
          → PlaceBy256 (after_heading o
          (pick (ltb (length list) (length (records_of image))) (refused 7 nowhere) accepted))
      by_whole accepted k = by_pick PlaceBy256 (ltb (length list) (length (records_of image))) (λ short. tt) (λ long. tt)
      by_whole (refused number place) k = k

  outcome_of_lem : (o : Outcome) → (listed o image list).outcome ≡ o
  outcome_of_lem accepted = refl
  outcome_of_lem (refused number place) = refl

  pub small_read : (left : List MoveRecord) (outcome : Outcome) (count : ℕ)
      → ReadPromised image list (listing outcome count left) → Small (of_read outcome count)
  unfolding read_call
  small_read left outcome count promised =
      let is : outcome ≡ read_check image (length list) =
      ap (λ h. h.outcome) promised.outcome ∙ outcome_of_lem (read_check image (length list)) in
      by_place outcome count 0 promised.few (omega arith) (subst PlaceBy256 (sym is) read_by_256)

-- A written image: 2 to 5 name no offset, and 19 and 20 have one number each.
abbrev WrittenBy256 : WriteOutcome → Type 0
WrittenBy256 (said o) = PlaceBy256 o
WrittenBy256 (refused_record number index) = Unit {0}
WrittenBy256 (refused_page number p) = Unit {0}

module _ (size pages : ℕ) (directory : List ℕ) (room : ℕ) where
  shape_by_256 : PlaceBy256 (shape_check size pages directory room)
  unfolding shape_check
  shape_by_256 =
      by_pick PlaceBy256 (eqb size 0 || ltb 2048 size) (λ two. tt) (λ n.
      by_pick PlaceBy256 (eqb pages 0 || ltb 240 pages) (λ three. tt) (λ p.
      by_pick PlaceBy256 (not (eqb room (4 + size + 256 * pages)) || not (eqb (length directory) size)) (λ four. tt)
      (λ long.
      by_pick PlaceBy256 (ltb (first_not_below pages directory) size) (λ five. tt) (λ good. tt))))

  write_by_256 : (records : List MoveRecord) → WrittenBy256 (write_check size pages directory room records)
  unfolding write_check
  write_by_256 records = by_shape (shape_check size pages directory room) shape_by_256
    where
      by_shape : (o : Outcome) → PlaceBy256 o → WrittenBy256 (after_shape o (records_check size pages directory records))
      by_shape accepted k =
          by_pick WrittenBy256 (ltb (rising size records) (length records)) (λ nineteen. tt) (λ all.
          by_pick WrittenBy256 (ltb (first_full directory records pages 0) pages) (λ twenty. tt) (λ fit. tt))
      by_shape (refused number place) k = k

small_outcome : (o : WriteOutcome) → WrittenBy256 o → Small (of_written o)
small_outcome (said o) k = by_place o 0 0 (omega arith) (omega arith) k
small_outcome (refused_record number index) k = no_numbers number index
small_outcome (refused_page number p) k = no_numbers number p

pub small_written : (size pages : ℕ) (directory : List ℕ) (records : List MoveRecord) (buffer left : List ℕ)
    (outcome : WriteOutcome) → WritePromised size pages directory records buffer (writing outcome left)
    → Small (of_written outcome)
unfolding write_call
small_written size pages directory records buffer left outcome promised =
    let is : outcome ≡ write_check size pages directory (length buffer) records =
    ap (λ h. h.outcome) promised.outcome in
    small_outcome outcome
    (subst WrittenBy256 (sym is) (write_by_256 size pages directory (length buffer) records))

-- a refusal before any page
small_place : (number : ℕ) (place : Place) → NamesNoPage (refused number place)
    → Small (of_outcome (refused number place) 0 0)
small_place number nowhere k = no_numbers number 0
small_place number (at_station station) k = no_numbers number station
small_place number (on_page p offset) k = absurd k

module _ (q : Query) (t : Lent) where
  ended_small : (h : Halt) (s : State) → s.halt ≡ h → (frame_of q).size ≤ 2048 → length s.pages ≤ (frame_of q).size
      → ((number p offset : ℕ) → s.halt ≡ net.refused number p offset → pages_of q p ≡ bad number offset)
      → Small (of_search (ended h (frame_of q) s t).reply)
  unfolding reached
  ended_small going s e few short why =
      sized 0 (length s.pages) (reached (frame_of q) s) 0 0 (omega arith)
      (omega (arith, count-le (has_time (frame_of q) s) (frame_of q).size)) (omega arith)
  ended_small (net.refused number p offset) s e few short why =
      sized number (length s.pages) 0 p offset (omega arith) (omega arith)
      (bad_page q.strip q.image p number offset (why number p offset e)).1

  on_map_small : (df : Bool) → Admitted q t → Bytes q.image → Small (of_search (on_map (search_of df) q t).reply)
  unfolding on_map
  on_map_small df a bytes =
      let s = search_of df (frame_of q) (pages_of q) q.source in
      ended_small s.halt s refl (few_stations q t a) (short_of q t a bytes df)
      (λ number p offset e. (refused-of q t a bytes df number p offset e).0.why)

  pub small_search : (df : Bool) → Bytes q.image → Small (of_search (searched (search_of df) q t).reply)
  unfolding searched
  small_search df bytes = by_check (call_check q t) (decided q t)
    where
      by_check : (o : Outcome) → Decided q t o → Small (of_search (after_check (search_of df) q t o).reply)
      by_check o (turned_down number place k) = small_place number place k
      by_check o (passed a) = on_map_small df a bytes

-- a chain has no more stations than it may
abbrev ChainBy : ℕ → Chain → Type 0
ChainBy most (whole way) = length way ≤ most
ChainBy most broken = Unit {0}

chain_by : (preds : List ℕ) (most v : ℕ) → ChainBy most (chain preds most v)
unfolding chain
chain_by preds zero v = tt
chain_by preds (suc most) v =
    further (eqb (pred_at preds v) source_mark) (ltb (pred_at preds v) (length preds))
    (chain preds most (pred_at preds v)) (chain_by preds most (pred_at preds v))
  where
    further : (a b : Bool) (before : Chain) → ChainBy most before
        → ChainBy (suc most) (pick a (whole (v ∷ [])) (pick b (lengthened before v) broken))
    further true b before k = omega arith
    further false true (whole way) k = omega (arith, length-append way (v ∷ []))
    further false true broken k = tt
    further false false before k = tt

module _ (preds : List ℕ) (station : ℕ) (out : List ℕ) where
  fitted_small : (c : Chain) → ChainBy (length preds) c → length preds ≤ 2048
      → Small (of_route (handed_back (fitted (length out) c) out).answer)
  fitted_small broken k few = no_numbers 16 0
  fitted_small (whole way) k few = room (ltb (length out) (length way))
    where
      room : (b : Bool)
          → Small (of_route (handed_back (pick b (route.refused 17) (found way)) out).answer)
      room true = no_numbers 17 0
      room false = sized 0 (length way) 0 0 0 (omega arith) (omega arith) (omega arith)

  pub small_route : Small (of_route (route_call preds station out).answer)
  unfolding route_call outcome
  small_route =
      by_tests (eqb (length preds) 0) (ltb 2048 (length preds)) (leb (length preds) station)
      (eqb (pred_at preds station) no_pred) refl
    where
      by_tests : (a b c d : Bool) → ltb 2048 (length preds) ≡ b
          → Small (of_route (handed_back
          (pick (a || b || c) (route.refused 15)
          (pick d no_route (fitted (length out) (chain preds (length preds) station)))) out).answer)
      by_tests true b c d e = no_numbers 15 0
      by_tests false true c d e = no_numbers 15 0
      by_tests false false true d e = no_numbers 15 0
      by_tests false false false true e = no_numbers 0 0
      by_tests false false false false e =
          fitted_small (chain preds (length preds) station) (chain_by preds (length preds) station)
          (ltb-false 2048 (length preds) e)
