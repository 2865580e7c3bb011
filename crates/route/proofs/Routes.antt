-- What the definition finds is a route, and every route that is short enough is found. Both go station by station, the
-- one along the definition, the other along the route.
use Rattle.common.proofs.Ground.{◌≡◌, refl, ap, ◌∙◌, Bool, true, false, List, [], ◌∷◌, ◌++◌, ℕ, zero, suc, ◌<◌, ◌≤◌}
use Rattle.common.proofs.Ground.{arith, length, length-append, get_or-eq_default, ltb, ltb-true, ltb-false}
use Rattle.common.specs.Numbers.{no_pred}
use Rattle.common.specs.Chains.{pred_at}
use Rattle.route.specs.Route.{whole, chain, trail}
use Rattle.route.specs.Route.{RouteTo, begins, extends}
use Rattle.route.proofs.Steps.{WholeBy, at_source, behind, whole_by, chain_source, chain_onward}

-- A route with one more station.
pub one_longer : (route : List ℕ) (v : ℕ) → length (route ++ v ∷ []) ≡ suc (length route)
one_longer route v = simp length-append (omega arith)

-- A number whose entry is not 65,535 is a station.
module _ (preds : List ℕ) (v : ℕ) where
  pub is_station : (pred_at preds v ≡ no_pred → ⊥) → v < length preds
  is_station n = inside (ltb v (length preds)) refl
    where
      inside : (t : Bool) → ltb v (length preds) ≡ t → v < length preds
      inside true e = ltb-true v (length preds) e
      inside false e = absurd (n (get_or-eq_default preds no_pred (ltb-false v (length preds) e)))

module _ (preds : List ℕ) (few : length preds ≤ 2048) where
  -- What the definition finds is a route.
  pub whole_is_route : (most v : ℕ) (route : List ℕ) → chain preds most v ≡ whole route → RouteTo preds v route
  unfolding chain
  whole_is_route zero v route e = absurd (let z : ◌≡◌ {A = ℕ} 0 1 = cc in omega arith)
  whole_is_route (suc most) v route e = by (whole_by preds most v route e) (whole_is_route most (pred_at preds v))
    where
      by : WholeBy preds most v route →
          ((front : List ℕ) → chain preds most (pred_at preds v) ≡ whole front →
          RouteTo preds (pred_at preds v) front) →
          RouteTo preds v route
      by (at_source s f) before = rw f (begins v (is_station preds v (λ g. omega arith)) s)
      by (behind front h g f) before =
          rw f (extends (pred_at preds v) v front (before front g) (is_station preds v (λ g. omega arith)) refl)

  -- It has at most as many stations as the definition allows.
  pub whole_is_short : (most v : ℕ) (route : List ℕ) → chain preds most v ≡ whole route → length route ≤ most
  unfolding chain
  whole_is_short zero v route e = absurd (let z : ◌≡◌ {A = ℕ} 0 1 = cc in omega arith)
  whole_is_short (suc most) v route e = by (whole_by preds most v route e) (whole_is_short most (pred_at preds v))
    where
      by : WholeBy preds most v route →
          ((front : List ℕ) → chain preds most (pred_at preds v) ≡ whole front → length front ≤ most) →
          length route ≤ suc most
      by (at_source s f) before = rw f (omega arith)
      by (behind front h g f) before = rw (f, one_longer front v) (omega (arith, before front g))

-- The station that a route leads to is below n.
pub route_station : {preds : List ℕ} {v : ℕ} {route : List ℕ} → RouteTo preds v route → v < length preds
route_station (begins v h s) = h
route_station (extends u v route r h e) = h

-- A route has a station.
pub route-some : {preds : List ℕ} {v : ℕ} {route : List ℕ} → RouteTo preds v route → 0 < length route
route-some (begins v h s) = omega arith
route-some (extends u v route r h e) = rw (one_longer route v) (omega arith)

-- Predecessors alone give the route's stations, once their number is known.
pub route_is_trail : {preds : List ℕ} {v : ℕ} {route : List ℕ} → RouteTo preds v route →
    trail preds (length route) v ≡ route
unfolding trail
route_is_trail (begins v h s) = refl
route_is_trail (extends u v route r h e) =
    rw (one_longer route v, e) (ap (λ (front : List ℕ). front ++ v ∷ []) (route_is_trail r))

-- Every route of at most so many stations is found.
pub route_found : {preds : List ℕ} {v : ℕ} {route : List ℕ} (most : ℕ) → length preds ≤ 2048 → RouteTo preds v route →
    length route ≤ most → chain preds most v ≡ whole route
route_found zero few r short = absurd (omega (arith, route-some r))
route_found {preds} (suc most) few (begins v h s) short = chain_source preds most v s
route_found {preds} (suc most) few (extends u v route r h e) short =
    let below : pred_at preds v < length preds = rw e (route_station r) in
    chain_onward preds most v (λ f. omega arith) below ∙
    rw (e, route_found most few r (omega (arith, one_longer route v)))
