-- What a caller may cite: what an answer `Ok (Some count)` says; that what the definition finds is a route, whose properties are
-- in proofs/Positions.antt, and the converse; that the route to a station on a route is its front part; that a chain
-- which meets the source within n - 1 steps is found; and so that every route by a search's predecessors is.
use Rattle.common.proofs.Ground.{◌≡◌, ◌≢◌, refl, ap, sym, ◌∙◌, Bool, true, false, ⊎_elim, List, [], ◌∷◌, ◌++◌, ℕ, zero}
use Rattle.common.proofs.Ground.{suc, ◌+◌, ◌<◌, ◌≤◌, arith, length, take, drop, length-take, length-append}
use Rattle.common.proofs.Ground.{get_or-append_seam, take-append-add, eqb, ltb, leb, eqb-true, eqb-false, ltb-true}
use Rattle.common.proofs.Ground.{ltb-false, leb-true, leb-false, le-ltb, get_or-eq_default}
use Rattle.common.specs.Numbers.{source_mark, no_pred}
use Rattle.common.specs.Chains.{pred_at, back, ChainsEnd}
use Rattle.common.proofs.Cases.{le-or-lt}
use Rattle.route.specs.Route.{Chain, whole, broken, chain, trail}
use Rattle.route.specs.Route.{Outcome, found, no_route, refused, fitted, outcome, RouteTo, begins, extends}
use Rattle.route.specs.Route.{stations, unreached, turned_down, Handed, handed_back, returned, route_call}
use Rattle.std.specs.Prelude.{Some, Ok}
use Rattle.route.proofs.Routes.{one_longer, whole_is_route, whole_is_short, route_station, route_found}
use Rattle.route.proofs.Positions.{station_at, route_front}
use Rattle.route.proofs.Calls.{outcome_many, outcome_no_station, outcome_none, outcome-chain}

-- What an answer `Ok (Some count)` says: the definition finds a route, and its stations stand at the front of the output.
pub record Wrote (preds : List ℕ) (station : ℕ) (out : List ℕ) (count : ℕ) (after : List ℕ) : Type 0 where
  pub route : List ℕ
  pub is_found : outcome preds station (length out) ≡ found route
  pub counted : count ≡ length route
  pub written : after ≡ route ++ drop (length route) out

pub answer_found : (preds : List ℕ) (station : ℕ) (out : List ℕ) (count : ℕ) (after : List ℕ) →
    returned (Ok (Some count)) after ≡ route_call preds station out → Wrote preds station out count after
unfolding route_call
answer_found preds station out count after e = by (outcome preds station (length out)) refl e
  where
    by : (o : Outcome) → outcome preds station (length out) ≡ o → returned (Ok (Some count)) after ≡ handed_back o out →
        Wrote preds station out count after
    by (found route) f g =
        let same : stations count ≡ stations (length route) = ap (λ (h : Handed). h.answer) g in
        record { route = route; is_found = f; counted = cc; written = ap (λ (h : Handed). h.output) g }
    by no_route f g =
        let same : stations count ≡ unreached = ap (λ (h : Handed). h.answer) g in
        absurd (let z : ◌≡◌ {A = ℕ} 0 1 = cc in omega arith)
    by (refused number) f g =
        let same : stations count ≡ turned_down number = ap (λ (h : Handed). h.answer) g in
        absurd (let z : ◌≡◌ {A = ℕ} 0 1 = cc in omega arith)

-- What a found route says of the call.
pub record FoundBy (preds : List ℕ) (station room : ℕ) (route : List ℕ) : Type 0 where
  pub few : length preds ≤ 2048
  pub leads : RouteTo preds station route
  pub short : length route ≤ length preds
  pub fits : length route ≤ room

-- What the definition finds is a route, no longer than n and the output.
pub found_by : (preds : List ℕ) (station room : ℕ) (route : List ℕ) → outcome preds station room ≡ found route →
    FoundBy preds station room route
found_by preds station room route e =
    by (ltb 2048 (length preds)) (leb (length preds) station) (eqb (pred_at preds station) no_pred)
    refl refl refl
  where
    chained : (c : Chain) → chain preds (length preds) station ≡ c → length preds ≤ 2048 → found route ≡ fitted room c →
        FoundBy preds station room route
    chained broken f few g = absurd (let z : ◌≡◌ {A = ℕ} 0 1 = cc in omega arith)
    chained (whole other) f few g = fitting (ltb room (length other)) refl
      where
        fitting : (t : Bool) → ltb room (length other) ≡ t → FoundBy preds station room route
        fitting true t = absurd (let z : ◌≡◌ {A = ℕ} 0 1 = cc (rw t at g) in omega arith)
        fitting false t =
            let same : route ≡ other = cc (rw t at g) in
            rw same (record {
              few = few;
              leads = whole_is_route preds few (length preds) station other f;
              short = whole_is_short preds few (length preds) station other f;
              fits = ltb-false room (length other) t;
            })

    by : (s t u : Bool) → ltb 2048 (length preds) ≡ s → leb (length preds) station ≡ t →
        eqb (pred_at preds station) no_pred ≡ u → FoundBy preds station room route
    by true t u a b d =
        let other = outcome_many preds station room (ltb-true 2048 (length preds) a) in
        absurd (let z : ◌≡◌ {A = ℕ} 0 1 = cc in omega arith)
    by false true u a b d =
        let other = outcome_no_station preds station room (leb-true (length preds) station b) in
        absurd (let z : ◌≡◌ {A = ℕ} 0 1 = cc in omega arith)
    by false false true a b d =
        let few = ltb-false 2048 (length preds) a in
        let other =
        outcome_none preds station room few (leb-false (length preds) station b)
        (eqb-true (pred_at preds station) no_pred d) in
        absurd (let z : ◌≡◌ {A = ℕ} 0 1 = cc in omega arith)
    by false false false a b d =
        let few = ltb-false 2048 (length preds) a in
        chained (chain preds (length preds) station) refl few
        (sym e ∙
        outcome-chain preds station room few (leb-false (length preds) station b)
        (eqb-false (pred_at preds station) no_pred d))

-- A station with a route has an entry.
has_entry : {preds : List ℕ} {v : ℕ} {route : List ℕ} → length preds ≤ 2048 → RouteTo preds v route →
    pred_at preds v ≡ no_pred → ⊥
has_entry few (begins v h s) n = omega arith
has_entry few (extends u v route r h e) n = omega (arith, route_station r)

-- The converse.
pub found_where : {preds : List ℕ} {station room : ℕ} {route : List ℕ} → FoundBy preds station room route →
    outcome preds station room ≡ found route
found_where {preds} {station} {room} {route} f =
    outcome-chain preds station room f.few (route_station f.leads) (has_entry f.few f.leads) ∙
    rw (route_found (length preds) f.few f.leads f.short, le-ltb room (length route) f.fits)

-- The route to the station at a position of a route is the front part up to there.
pub found_front : (preds : List ℕ) (station room : ℕ) (route : List ℕ) → outcome preds station room ≡ found route →
    (i : ℕ) → i < length route → outcome preds (station_at route i) room ≡ found (take (suc i) route)
found_front preds station room route e i h =
    let f = found_by preds station room route e in
    let part : length (take (suc i) route) ≤ length route = rw (length-take (suc i) route) (omega arith) in
    found_where (record {
      few = f.few;
      leads = route_front f.leads i h;
      short = omega (arith, f.short);
      fits = omega (arith, f.fits);
    })

-- The same of a station, with what stands before and behind it.
pub found_station : (preds : List ℕ) (station room : ℕ) (front : List ℕ) (v : ℕ) (rest : List ℕ) →
    outcome preds station room ≡ found (front ++ v ∷ rest) → outcome preds v room ≡ found (front ++ v ∷ [])
found_station preds station room front v rest e =
    let inside : length front < length (front ++ v ∷ rest) = simp length-append (omega arith) in
    let up : suc (length front) ≡ length front + 1 = omega arith in
    let taken : take (suc (length front)) (front ++ v ∷ rest) ≡ front ++ v ∷ [] =
    rw up (take-append-add front (v ∷ rest) 1) in
    rw (get_or-append_seam front v rest no_pred, taken) at
    (found_front preds station room (front ++ v ∷ rest) e (length front) inside)

-- Predecessors that meet a 65,534 entry behind stations only make a route.
pub steps_lead : (preds : List ℕ) (k v : ℕ) → ((j : ℕ) → j ≤ k → back preds j v < length preds) →
    pred_at preds (back preds k v) ≡ source_mark → RouteTo preds v (trail preds (suc k) v)
unfolding back trail
steps_lead preds zero v below s = begins v (below 0 (omega arith)) s
steps_lead preds (suc k) v below s =
    extends (pred_at preds v) v (trail preds (suc k) (pred_at preds v))
    (steps_lead preds k (pred_at preds v) (λ j h. below (suc j) (omega arith)) s)
    (below 0 (omega arith)) refl

pub trail-length : (preds : List ℕ) (k v : ℕ) → length (trail preds k v) ≡ k
unfolding trail
trail-length preds zero v = refl
trail-length preds (suc k) v =
    one_longer (trail preds k (pred_at preds v)) v ∙ rw (trail-length preds k (pred_at preds v))

-- A route is found where k steps, at most n - 1, lead to the source, and every number on the way is below n.
pub steps_found : (preds : List ℕ) (station room k : ℕ) → length preds ≤ 2048 → k < length preds →
    ((j : ℕ) → j ≤ k → back preds j station < length preds) →
    pred_at preds (back preds k station) ≡ source_mark → k < room →
    outcome preds station room ≡ found (trail preds (suc k) station)
steps_found preds station room k few within below s fits =
    let size = trail-length preds (suc k) station in
    found_where (record {
      few = few;
      leads = steps_lead preds k station below s;
      short = omega (arith, size);
      fits = omega (arith, size);
    })

-- C-15: where every chain of predecessors ends at the source, as in the table that a search leaves (its clause
-- `chains`), every station that has a predecessor has a route, and with room for n stations it is found.
module _ (preds : List ℕ) (source : ℕ) (few : length preds ≤ 2048) (ends : ChainsEnd (length preds) source preds) where
  no_station : (v : ℕ) → length preds ≤ v → pred_at preds v ≡ no_pred
  no_station v past = get_or-eq_default preds no_pred {n = v} past

  source_inside : source < length preds
  source_inside =
      ⊎_elim (λ past. absurd (omega (arith, ends.source_entry, no_station source past))) (λ inside. inside)
      (le-or-lt (length preds) source)

  -- from a number that is no station no steps lead to one
  outside_stays : (k v : ℕ) → length preds ≤ v → length preds ≤ back preds k v
  unfolding back
  outside_stays zero v past = past
  outside_stays (suc k) v past = outside_stays k (pred_at preds v) (omega (arith, no_station v past))

  -- so each step of a chain that ends at the source is a station
  all_inside : (k v : ℕ) → back preds k v ≡ source → (j : ℕ) → j ≤ k → back preds j v < length preds
  unfolding back
  all_inside k v leads zero h =
      ⊎_elim (λ past. absurd (omega (arith, source_inside, outside_stays k v past))) (λ inside. inside)
      (le-or-lt (length preds) v)
  all_inside zero v leads (suc j) h = absurd (omega arith)
  all_inside (suc k) v leads (suc j) h = all_inside k (pred_at preds v) leads j (omega arith)

  pub chains_route : (station room : ℕ) → pred_at preds station ≢ no_pred → length preds ≤ room
      → (k : ℕ) × (outcome preds station room ≡ found (trail preds (suc k) station))
  chains_route station room has wide =
      let (k, within, leads) = ends.ends station has in (
        k,
        steps_found preds station room k few within (all_inside k station leads)
            (ap (pred_at preds) leads ∙ ends.source_entry) (omega arith),
      )
