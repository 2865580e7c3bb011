-- The course case C10, the examples of rows 15 to 17 (01) and the bounds beside them, computed from the definitions.
use Rattle.common.proofs.Ground.{◌≡◌, refl, List, [], ◌∷◌, ℕ}
use Rattle.route.specs.Route.{chain, found, no_route, refused, outcome, stations, route_call}

-- The predecessors of C1.
abbrev pub c1_predecessors : List ℕ
c1_predecessors = 65534 ∷ 0 ∷ 4 ∷ 2 ∷ 0 ∷ 4 ∷ 5 ∷ []

-- "C10 route to 6 by the predecessors of C1: 0 4 5 6"
pub c10 : outcome c1_predecessors 6 7 ≡ found (0 ∷ 4 ∷ 5 ∷ 6 ∷ [])
unfolding outcome chain
c10 = refl

-- "later entries kept"
pub c10_output : route_call c1_predecessors 6 (1 ∷ 2 ∷ 3 ∷ 9 ∷ 8 ∷ 7 ∷ []) ≡
    record { answer = stations 4; output = 0 ∷ 4 ∷ 5 ∷ 6 ∷ 8 ∷ 7 ∷ [] }
unfolding route_call outcome chain
c10_output = refl

-- "entries 65,534; station 1"
pub row_15 : outcome (65534 ∷ []) 1 7 ≡ refused 15
unfolding outcome chain
row_15 = refl

-- "entries 0; station 0"
pub row_16 : outcome (0 ∷ []) 0 7 ≡ refused 16
unfolding outcome chain
row_16 = refl

-- "entries 65,534; station 0; output 0 long"
pub row_17 : outcome (65534 ∷ []) 0 0 ≡ refused 17
unfolding outcome chain
row_17 = refl

-- The source after n - 1 steps, and a chain that never meets it.
pub last_step : outcome (65534 ∷ 0 ∷ 1 ∷ []) 2 7 ≡ found (0 ∷ 1 ∷ 2 ∷ [])
unfolding outcome chain
last_step = refl

pub endless : outcome (2 ∷ 0 ∷ 1 ∷ []) 2 7 ≡ refused 16
unfolding outcome chain
endless = refl

-- 16 comes before 17.
pub broken_first : outcome (0 ∷ []) 0 0 ≡ refused 16
unfolding outcome chain
broken_first = refl

-- An output one entry too short, and one that is just long enough.
pub one_too_short : outcome (65534 ∷ 0 ∷ 1 ∷ []) 2 2 ≡ refused 17
unfolding outcome chain
one_too_short = refl

pub just_enough : outcome (65534 ∷ 0 ∷ 1 ∷ []) 2 3 ≡ found (0 ∷ 1 ∷ 2 ∷ [])
unfolding outcome chain
just_enough = refl

-- "no route" where the station's own entry is 65,535, and 16 where a later one is
pub own_entry_none : outcome (65535 ∷ 0 ∷ []) 0 7 ≡ no_route
unfolding outcome chain
own_entry_none = refl

pub later_entry_none : outcome (65535 ∷ 0 ∷ []) 1 7 ≡ refused 16
unfolding outcome chain
later_entry_none = refl
