-- A route by the positions of its list: how it begins and ends, how its stations are linked, and that its front parts
-- are routes. Each law goes along the route, station by station.
use Rattle.common.proofs.Ground.{◌≡◌, refl, sym, ◌∙◌, Bool, true, false, List, [], ◌∷◌, ◌++◌, ℕ, suc, ◌+◌, ◌-◌, ◌<◌}
use Rattle.common.proofs.Ground.{arith, length, get_or, take, get_or-append, take_all, take-append-le}
use Rattle.common.proofs.Ground.{get_or-append_seam, ltb, ltb-true, ltb-false}
use Rattle.common.specs.Numbers.{source_mark, no_pred}
use Rattle.common.specs.Chains.{pred_at}
use Rattle.route.specs.Route.{RouteTo, begins, extends}
use Rattle.route.proofs.Routes.{one_longer, route-some}

-- The station at a position of a route.
abbrev pub station_at : List ℕ → ℕ → ℕ
station_at route i = get_or route i no_pred

-- A position of a route with one more station: that of the last one, or one before it.
module _ (P : ℕ → Type 0) (route : List ℕ) (v : ℕ) where
  pub at_position : ((i : ℕ) → i < length route → P i) → P (length route) → (i : ℕ) → i < length (route ++ v ∷ []) → P i
  at_position earlier last i h = by (ltb i (length route)) refl
    where
      by : (t : Bool) → ltb i (length route) ≡ t → P i
      by true e = earlier i (ltb-true i (length route) e)
      by false e =
          let here : i ≡ length route = omega (arith, ltb-false i (length route) e, one_longer route v) in
          rw here last

-- It ends in its station.
pub route_ends : {preds : List ℕ} {v : ℕ} {route : List ℕ} → RouteTo preds v route →
    station_at route (length route - 1) ≡ v
route_ends (begins v h s) = refl
route_ends (extends u v route r h e) =
    let last : length (route ++ v ∷ []) - 1 ≡ length route = omega (arith, one_longer route v) in
    rw last (get_or-append_seam route v [] no_pred)

-- It begins with a station whose entry is 65,534.
pub route_begins : {preds : List ℕ} {v : ℕ} {route : List ℕ} → RouteTo preds v route →
    pred_at preds (station_at route 0) ≡ source_mark
route_begins (begins v h s) = s
route_begins (extends u v route r h e) =
    rw (get_or-append route (v ∷ []) no_pred 0 (route-some r)) (route_begins r)

-- All its stations are below n.
pub route_below : {preds : List ℕ} {v : ℕ} {route : List ℕ} → RouteTo preds v route → (i : ℕ) → i < length route →
    station_at route i < length preds
route_below {preds} (begins v h s) i l =
    let first : i ≡ 0 = omega arith in
    rw first h
route_below {preds} (extends u v route r h e) i l =
    at_position (λ i. station_at (route ++ v ∷ []) i < length preds) route v
    (λ i b. rw (get_or-append route (v ∷ []) no_pred i b) (route_below r i b))
    (rw (get_or-append_seam route v [] no_pred) h)
    i l

-- The entry of each later station is the one before it.
pub route_linked : {preds : List ℕ} {v : ℕ} {route : List ℕ} → RouteTo preds v route → (i : ℕ) → i + 1 < length route →
    pred_at preds (station_at route (i + 1)) ≡ station_at route i
route_linked (begins v h s) i l = absurd (omega arith)
route_linked {preds} (extends u v route r h e) i l =
    by (λ inner. route_linked r i inner) (ltb (i + 1) (length route)) refl
  where
    earlier : i < length route
    earlier = omega (arith, one_longer route v)

    by : (i + 1 < length route → pred_at preds (station_at route (i + 1)) ≡ station_at route i) →
        (t : Bool) → ltb (i + 1) (length route) ≡ t →
        pred_at preds (station_at (route ++ v ∷ []) (i + 1)) ≡ station_at (route ++ v ∷ []) i
    by linked true f =
        let inner = ltb-true (i + 1) (length route) f in
        rw (
          get_or-append route (v ∷ []) no_pred (i + 1) inner,
          get_or-append route (v ∷ []) no_pred i earlier,
        )
        (linked inner)
    by linked false f =
        let here : i + 1 ≡ length route = omega (arith, ltb-false (i + 1) (length route) f, one_longer route v) in
        let last : i ≡ length route - 1 = omega arith in
        rw (
          here,
          get_or-append_seam route v [] no_pred,
          get_or-append route (v ∷ []) no_pred i earlier,
          last,
        )
        (e ∙ sym (route_ends r))

-- The front part up to a position is the route to the station there.
pub route_front : {preds : List ℕ} {v : ℕ} {route : List ℕ} → RouteTo preds v route → (i : ℕ) → i < length route →
    RouteTo preds (station_at route i) (take (suc i) route)
route_front {preds} (begins v h s) i l =
    let first : i ≡ 0 = omega arith in
    rw first (begins v h s)
route_front {preds} (extends u v route r h e) i l =
    at_position (λ i. RouteTo preds (station_at (route ++ v ∷ []) i) (take (suc i) (route ++ v ∷ []))) route v
    (λ i b.
    rw (get_or-append route (v ∷ []) no_pred i b, take-append-le (suc i) route (v ∷ []) (omega arith))
    (route_front r i b))
    (rw (
      get_or-append_seam route v [] no_pred,
      take_all (suc (length route)) (route ++ v ∷ []) (omega (arith, one_longer route v)),
    )
    (extends u v route r h e))
    i l
