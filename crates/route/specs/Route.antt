-- What the call `route` has to hand back, as functions on lists (01, "Route, whole check, program" and rows 15 to 17 of
-- "What is turned down"). Each definition stands under the sentence that it states; n is the number of predecessors.
use Rattle.std.specs.Prelude.{◌≡◌, ◌||◌, List, [], ◌∷◌, ◌++◌, ℕ, zero, suc, ◌<◌, length, drop, ltb, leb, eqb}
use Rattle.std.specs.Prelude.{Option, Some, None, Result, Ok, Err}
use Rattle.route.specs.declared.RouteRefusal.{RouteRefusal}
use Rattle.route.specs.declared.RouteRefusal.TheVariants.{Station as no_station, Chain as no_chain, Room as no_room}
use Rattle.common.specs.Pick.{pick}
use Rattle.common.specs.Numbers.{source_mark, no_pred}
use Rattle.common.specs.Chains.{pred_at}

-- What following the predecessors of a station gives: the stations from source to station, or a broken chain.
pub data Chain : Type 0 where
  whole : List ℕ → Chain
  broken : Chain

-- The same one station further.
abbrev pub lengthened : Chain → ℕ → Chain
lengthened (whole route) v = whole (route ++ v ∷ [])
lengthened broken v = broken

-- 16: "chain meets 65,535 (other than as the station's own entry) or another number not below n (65,534 apart), or
-- lacks the source after n - 1 steps". The chain that ends in v and has at most so many stations: v alone where its
-- entry marks the source, the chain of its entry and v where the entry is below n, and otherwise broken.
unfoldable pub chain : List ℕ → ℕ → ℕ → Chain
chain preds zero v = broken
chain preds (suc most) v =
    let further = lengthened (chain preds most (pred_at preds v)) v in
    pick (eqb (pred_at preds v) source_mark) (whole (v ∷ []))
    (pick (ltb (pred_at preds v) (length preds)) further broken)

-- "It writes the stations from source to station and answers their count"; "or "no route""; or the number of a refusal.
pub data Outcome : Type 0 where
  found : List ℕ → Outcome
  no_route : Outcome
  refused : ℕ → Outcome

-- 16 where the chain is broken; 17: "output shorter than the route".
abbrev pub fitted : ℕ → Chain → Outcome
fitted room broken = refused 16
fitted room (whole route) = pick (ltb room (length route)) (refused 17) (found route)

-- 15: "n is 0 or over 2,048, or station not below n"; then ""no route" where the station's own entry is 65,535"; then
-- 16: the chain "lacks the source after n - 1 steps", which pass n stations; then 17.
unfoldable pub outcome : List ℕ → ℕ → ℕ → Outcome
outcome preds station room =
    pick (eqb (length preds) 0 || ltb 2048 (length preds) || leb (length preds) station) (refused 15)
    (pick (eqb (pred_at preds station) no_pred) no_route
    (fitted room (chain preds (length preds) station)))

-- What the caller sees: a count of stations, no route, or the number of a refusal; and the output.
pub data Answer : Type 0 where
  stations : ℕ → Answer
  unreached : Answer
  turned_down : ℕ → Answer

pub record Handed : Type 0 where
  pub answer : Answer
  pub output : List ℕ

-- "It writes the stations from source to station and answers their count, later entries kept; or, writing nothing,
-- "no route""; 15 to 17 "leave every table untouched".
abbrev pub handed_back : Outcome → List ℕ → Handed
handed_back (found route) out =
    record { answer = stations (length route); output = route ++ drop (length route) out }
handed_back no_route out = record { answer = unreached; output = out }
handed_back (refused number) out = record { answer = turned_down number; output = out }

-- What the answer's cases mean in the paper's words.
abbrev pub number_of : RouteRefusal → ℕ
number_of no_station = 15
number_of no_chain = 16
number_of no_room = 17

abbrev pub meaning : Result (Option ℕ) RouteRefusal → Answer
meaning (Ok (Some count)) = stations count
meaning (Ok None) = unreached
meaning (Err refusal) = turned_down (number_of refusal)

-- What a call handed back: its answer's meaning and every entry of the output.
abbrev pub returned : Result (Option ℕ) RouteRefusal → List ℕ → Handed
returned answer out = record { answer = meaning answer; output = out }

-- What a call has to hand back, for all arguments.
unfoldable pub route_call : List ℕ → ℕ → List ℕ → Handed
route_call preds station out = handed_back (outcome preds station (length out)) out

-- For the parts of the code: how many stations a chain has, none where it is broken.
abbrev pub stations_of : Chain → Option ℕ
stations_of (whole route) = Some (length route)
stations_of broken = None

-- The last k stations on the way to v, by predecessors alone.
unfoldable pub trail : List ℕ → ℕ → ℕ → List ℕ
trail preds zero v = []
trail preds (suc k) v = trail preds k (pred_at preds v) ++ v ∷ []

-- The output with the last k stations on the way to v written to its front, later entries kept.
abbrev pub written_to : List ℕ → ℕ → ℕ → List ℕ → List ℕ
written_to preds k v out = trail preds k v ++ drop k out

-- What a route is: it ends in the station, begins with a station whose entry is 65,534, the entry of each later station
-- is the one before it, and all its stations are below n.
pub data RouteTo (preds : List ℕ) : ℕ → List ℕ → Type 0 where
  begins : (v : ℕ) → v < length preds → pred_at preds v ≡ source_mark → RouteTo preds v (v ∷ [])
  extends : (u v : ℕ) (route : List ℕ) → RouteTo preds u route → v < length preds → pred_at preds v ≡ u →
      RouteTo preds v (route ++ v ∷ [])
