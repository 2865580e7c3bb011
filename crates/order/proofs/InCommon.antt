-- What two images have in common is passed: of one station, and station by station.
use Rattle.common.proofs.Ground.{◌≡◌, refl, ap, sym, ◌∙◌, Bool, true, false, ◌&&◌, List, [], ◌∷◌, ◌++◌, append_assoc}
use Rattle.common.proofs.Ground.{map, ℕ, ◌-◌, ◌≤◌, ◌<◌, arith, length, eqb, eqb-true}
use Rattle.common.specs.Pick.{pick}
use Rattle.common.proofs.Cases.{never, by_pick}
use Rattle.commands.specs.declared.Move.{Move}
use Rattle.image.specs.Image.{page_bytes}
use Rattle.move_record.specs.declared.MoveRecord.{MoveRecord}
use Rattle.roundtrip.specs.Records.{record_for}
use Rattle.std.specs.Prelude.{Option, Some, None}
use Rattle.by_station.specs.Next.{next_move}
use Rattle.by_station.specs.Reached.{Reached}
use Rattle.by_station.proofs.Reached.{reached-move, found_behind}
use Rattle.ordering.specs.Order.{by_records}
use Rattle.ordering.proofs.Equal.{record_itself}
use Rattle.order.specs.Passing.{same_move, goes_on, parted, ended, step_of, Passed, none, more}

-- Both go on with the same move.
pub step_on : {first second : Option (Move × ℕ)} {x y m n : Move} {behind also_behind : ℕ} → first ≡ Some (m, behind)
    → second ≡ Some (n, also_behind) → x ≡ m → y ≡ n → true ≡ same_move x y
    → step_of first second ≡ goes_on behind also_behind
step_on found also is also_is same = rw (found, also, sym (rw (is, also_is) at same))

-- Moves that have the same numbers are the same.
same_numbers : (m n : Move) → same_move m n ≡ true → m ≡ n
same_numbers m n e =
    by_tests (eqb m.target n.target) (eqb m.time n.time) (eqb m.limit n.limit) refl refl refl e
  where
    by_tests : (a b c : Bool) → eqb m.target n.target ≡ a → eqb m.time n.time ≡ b
        → eqb m.limit n.limit ≡ c → a && (b && c) ≡ true → m ≡ n
    by_tests true true true x y z q =
        let target = eqb-true m.target n.target x in
        let time = eqb-true m.time n.time y in
        let limit = eqb-true m.limit n.limit z in
        let same : ◌≡◌ {A = Move} (record { target = m.target; time = m.time; limit = m.limit })
        (record { target = n.target; time = n.time; limit = n.limit }) = cc in
        same
    by_tests true true false x y z q = never (cc)
    by_tests true false c x y z q = never (cc)
    by_tests false b c x y z q = never (cc)

-- What a step says of the two moves: both go on with the same one.
pub record Both (first second : Option (Move × ℕ)) (behind also_behind : ℕ) : Type 0 where
  pub move : Move
  pub first_found : first ≡ Some (move, behind)
  pub second_found : second ≡ Some (move, also_behind)

both : (first second : Option (Move × ℕ)) (behind also_behind : ℕ) → step_of first second ≡ goes_on behind also_behind
    → Both first second behind also_behind
both (Some (m, x)) (Some (n, y)) behind also_behind e = by_test (same_move m n) refl e
  where
    by_test : (same : Bool) → same_move m n ≡ same → pick same (goes_on x y) parted ≡ goes_on behind also_behind
        → Both (Some (m, x)) (Some (n, y)) behind also_behind
    by_test true is q =
        let moves = same_numbers m n is in
        let first : x ≡ behind = cc in
        let second : y ≡ also_behind = cc in
        record { move = m; first_found = cc; second_found = cc }
    by_test false is q = never (cc)
both (Some (m, x)) None behind also_behind e = never (cc)
both None (Some (n, y)) behind also_behind e = never (cc)
both None None behind also_behind e = never (cc)

-- A station ends in both only where neither goes on.
pub both_over : (first second : Option (Move × ℕ)) → step_of first second ≡ ended → (first ≡ None) × (second ≡ None)
both_over None None e = (refl, refl)
both_over None (Some (n, y)) e = never (cc)
both_over (Some (m, x)) None e = never (cc)
both_over (Some (m, x)) (Some (n, y)) e =
    let found : Option (Move × ℕ) = Some (m, x) in
    let also : Option (Move × ℕ) = Some (n, y) in
    by_pick (λ step. step ≡ ended → (found ≡ None) × (also ≡ None)) (same_move m n) {x = goes_on x y} {y = parted}
    (λ same q. never (cc)) (λ unlike q. never (cc)) e

pub on_less : (page other : List ℕ) (at with behind also_behind : ℕ)
    → step_of (next_move page at) (next_move other with) ≡ goes_on behind also_behind
    → length page - behind < length page - at
on_less page other at with behind also_behind e =
    let found = (both (next_move page at) (next_move other with) behind also_behind e).first_found in
    let on = found_behind page at found in
    omega arith

-- What is passed stays within the pages.
pub passed_near : {page other : List ℕ} {from also at with : ℕ} → Passed page other from also at with → from ≤ 256
    → also ≤ 256 → length page ≤ 256 → length other ≤ 256 → (at ≤ 256) × (with ≤ 256)
passed_near none near also_near short also_short = (near, also_near)
passed_near {page} {other} (more {at = at} {with = with} behind also_behind passed e) near also_near short also_short =
    let found = both (next_move page at) (next_move other with) behind also_behind e in
    let on = found_behind page at found.first_found in
    let also_on = found_behind other with found.second_found in
    (omega arith, omega arith)

-- The moves that are left of a station, on page p of one image and on page q of another, begin with the same ones,
-- which were passed.
module _ (first second : List ℕ) (p q after : ℕ) where
  pub record Common (at with : ℕ) (moves also_moves : List Move) : Type 0 where
    pub passed : List Move
    pub left : List Move
    pub also_left : List Move
    pub begins : moves ≡ passed ++ left
    pub also_begins : also_moves ≡ passed ++ also_left
    pub reached : Reached first p after at left
    pub also_reached : Reached second q after with also_left

  pub in_common : {from also at with : ℕ} (moves also_moves : List Move) → Reached first p after from moves
      → Reached second q after also also_moves → Passed (page_bytes first p) (page_bytes second q) from also at with
      → Common at with moves also_moves
  in_common moves also_moves reached also_reached none = record {
    passed = [];
    left = moves;
    also_left = also_moves;
    begins = refl;
    also_begins = refl;
    reached = reached;
    also_reached = also_reached;
  }
  in_common moves also_moves reached also_reached (more {at = at} {with = with} behind also_behind before e) =
      let found = both (next_move (page_bytes first p) at) (next_move (page_bytes second q) with) behind also_behind e in
      let k = in_common moves also_moves reached also_reached before in
      let (rest, next, on) = reached-move first p at k.left k.reached found.first_found in
      let (also_rest, also_next, also_on) =
      reached-move second q with k.also_left k.also_reached found.second_found in
      record {
        passed = k.passed ++ (found.move ∷ []);
        left = rest;
        also_left = also_rest;
        begins = k.begins ∙ ap (λ l. k.passed ++ l) next ∙ sym (append_assoc k.passed (found.move ∷ []) rest);
        also_begins =
            k.also_begins ∙ ap (λ l. k.passed ++ l) also_next ∙
            sym (append_assoc k.passed (found.move ∷ []) also_rest);
        reached = on;
        also_reached = also_on;
      }

-- Equal records at the front of both lists have no part in the order.
pub without_common : (u : ℕ) (passed : List Move) (x y : List MoveRecord)
    → by_records (map (record_for u) passed ++ x) (map (record_for u) passed ++ y) ≡ by_records x y
unfolding by_records
without_common u [] x y = refl
without_common u (m ∷ passed) x y = rw (record_itself (record_for u m)) (without_common u passed x y)
