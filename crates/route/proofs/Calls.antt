-- What a call hands back, in each of the cases that the code tells apart.
use Rattle.common.proofs.Ground.{◌≡◌, refl, sym, ◌∙◌, Bool, true, false, ◌||◌, List, ℕ, ◌<◌, ◌≤◌, arith, length, eqb}
use Rattle.common.proofs.Ground.{ltb, leb, eq-eqb, ne_eqb, lt-ltb, le-ltb, le-leb, lt-leb}
use Rattle.std.specs.Prelude.{Some, None, Ok, Err}
use Rattle.route.specs.declared.RouteRefusal.TheVariants.{Station as no_station, Chain as no_chain, Room as no_room}
use Rattle.common.specs.Numbers.{no_pred}
use Rattle.common.specs.Chains.{pred_at}
use Rattle.route.specs.Route.{Chain, whole, broken, chain, stations_of, written_to}
use Rattle.route.specs.Route.{no_route, refused, fitted, outcome, returned, handed_back, route_call}
use Rattle.route.proofs.Routes.{whole_is_route, route_is_trail}

last_true : (b : Bool) → (b || true) ≡ true
last_true true = refl
last_true false = refl

module _ (preds : List ℕ) (station room : ℕ) where
  pub outcome_many : 2048 < length preds → outcome preds station room ≡ refused 15
  unfolding outcome
  outcome_many h = simp (lt-ltb _ _ h, last_true)

  pub outcome_no_station : length preds ≤ station → outcome preds station room ≡ refused 15
  unfolding outcome
  outcome_no_station h = simp (le-leb _ _ h, last_true)

  module _ (few : length preds ≤ 2048) (below : station < length preds) where
    asked_well : (eqb (length preds) 0 || ltb 2048 (length preds) || leb (length preds) station) ≡ false
    asked_well =
        let some : length preds ≡ 0 → ⊥ = λ e. omega arith in
        simp (ne_eqb _ _ some, le-ltb _ _ few, lt-leb _ _ below)

    pub outcome_none : pred_at preds station ≡ no_pred → outcome preds station room ≡ no_route
    unfolding outcome
    outcome_none e = simp (asked_well, eq-eqb _ _ e)

    pub outcome-chain : (pred_at preds station ≡ no_pred → ⊥) →
        outcome preds station room ≡ fitted room (chain preds (length preds) station)
    unfolding outcome
    outcome-chain n = simp (asked_well, ne_eqb _ _ n)

module _ (preds : List ℕ) (station : ℕ) (out : List ℕ) where
  pub call_many : 2048 < length preds → returned (Err no_station) out ≡ route_call preds station out
  unfolding route_call
  call_many h = rw (outcome_many preds station (length out) h)

  pub call_no_station : length preds ≤ station → returned (Err no_station) out ≡ route_call preds station out
  unfolding route_call
  call_no_station h = rw (outcome_no_station preds station (length out) h)

  module _ (few : length preds ≤ 2048) (below : station < length preds) where
    pub call_none : (before : ℕ) → before ≡ pred_at preds station → before ≡ no_pred →
        returned (Ok None) out ≡ route_call preds station out
    unfolding route_call
    call_none before e f = rw (outcome_none preds station (length out) few below (sym e ∙ f))

    module _ (before : ℕ) (e : before ≡ pred_at preds station) (n : before ≡ no_pred → ⊥)
      where
        outcome_here : outcome preds station (length out) ≡ fitted (length out) (chain preds (length preds) station)
        outcome_here = outcome-chain preds station (length out) few below (λ f. n (e ∙ f))

        pub call_broken : None ≡ stations_of (chain preds (length preds) station) →
            returned (Err no_chain) out ≡ route_call preds station out
        unfolding route_call
        call_broken counted = rw outcome_here (by (chain preds (length preds) station) refl)
          where
            by : (c : Chain) → chain preds (length preds) station ≡ c →
                returned (Err no_chain) out ≡ handed_back (fitted (length out) c) out
            by broken f = refl
            by (whole route) f =
                let none : None ≡ Some (length route) = rw f at counted in
                cc

        module _ (count : ℕ) (counted : Some count ≡ stations_of (chain preds (length preds) station)) where
          pub call_short : length out < count → returned (Err no_room) out ≡ route_call preds station out
          unfolding route_call
          call_short h = rw outcome_here (by (chain preds (length preds) station) refl)
            where
              by : (c : Chain) → chain preds (length preds) station ≡ c →
                  returned (Err no_room) out ≡ handed_back (fitted (length out) c) out
              by broken f =
                  let none : Some count ≡ None = rw f at counted in
                  cc
              by (whole route) f =
                  let some : Some count ≡ Some (length route) = rw f at counted in
                  let same : count ≡ length route = cc in
                  let shorter : length out < length route = omega arith in
                  simp (lt-ltb _ _ shorter)

          pub call_found : count ≤ length out → (after : List ℕ) → after ≡ written_to preds count station out →
              returned (Ok (Some count)) after ≡ route_call preds station out
          unfolding route_call
          call_found h after written = rw (outcome_here, written) (by (chain preds (length preds) station) refl)
            where
              by : (c : Chain) → chain preds (length preds) station ≡ c →
                  returned (Ok (Some count)) (written_to preds count station out) ≡ handed_back (fitted (length out) c) out
              by broken f =
                  let none : Some count ≡ None = rw f at counted in
                  cc
              by (whole route) f =
                  let some : Some count ≡ Some (length route) = rw f at counted in
                  let same : count ≡ length route = cc in
                  let enough : length route ≤ length out = omega arith in
                  let stations = route_is_trail (whole_is_route preds few (length preds) station route f) in
                  simp (same, le-ltb _ _ enough, stations)
