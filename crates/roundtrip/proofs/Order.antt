-- What it means that no record is a fault of 19: each is a move of the map, and each is above the one before it. So
-- records are in order exactly when `rising` counts them all; and of the records in order those of one station are its
-- moves as a good page has them.
use Rattle.common.proofs.Ground.{◌≡◌, ◌≢◌, refl, ap, Bool, true, false, not, ◌&&◌, ◌||◌, ◌⊎◌, inl, inr}
use Rattle.common.proofs.Ground.{dite, List, [], ◌∷◌, ℕ, suc, ◌+◌, ◌≤◌, ◌<◌, arith, ℕ_discrete, length}
use Rattle.common.proofs.Ground.{ltb, eqb, lt-ltb, eq-eqb, ne_eqb, ltb-true, eqb-true, eqb-false}
use Rattle.common.specs.Pick.{pick}
use Rattle.common.proofs.Cases.{never}
use Rattle.move_record.specs.declared.MoveRecord.{MoveRecord}
use Rattle.roundtrip.specs.Written.{is_move, is_above, rising_after, rising}

-- A record is a move of a map of so many stations.
pub record Sound (size : ℕ) (r : MoveRecord) : Type 0 where
  pub from_below : r.from < size
  pub target_below : r.target < size
  pub other : r.target ≢ r.from

-- The records are in order, where `own` is the latest station and `least` the least target that still rises there.
abbrev pub Ordered : ℕ → ℕ → ℕ → List MoveRecord → Type 0
Ordered size own least [] = Unit {0}
Ordered size own least (r ∷ rs) =
    Sound size r × ((own < r.from) ⊎ ((own ≡ r.from) × (least ≤ r.target)))
    × Ordered size r.from (r.target + 1) rs

-- the tests, by what holds
pub is_sound : (size : ℕ) (r : MoveRecord) → is_move size r ≡ true → Sound size r
is_sound size r e = by_tests (ltb r.from size) (ltb r.target size) (eqb r.target r.from) refl refl refl e
  where
    by_tests : (a b c : Bool) → ltb r.from size ≡ a → ltb r.target size ≡ b → eqb r.target r.from ≡ c
        → a && (b && not c) ≡ true → Sound size r
    by_tests true true false x y z q = record {
      from_below = ltb-true r.from size x;
      target_below = ltb-true r.target size y;
      other = eqb-false r.target r.from z;
    }
    by_tests true true true x y z q = never (cc)
    by_tests true false c x y z q = never (cc)
    by_tests false b c x y z q = never (cc)

sound_is : (size : ℕ) (r : MoveRecord) → Sound size r → is_move size r ≡ true
sound_is size r s =
    simp (
      lt-ltb r.from size s.from_below,
      lt-ltb r.target size s.target_below,
      ne_eqb r.target r.from s.other,
    )

abbrev pub Above : MoveRecord → MoveRecord → Type 0
Above before r = (before.from < r.from) ⊎ ((before.from ≡ r.from) × (before.target + 1 ≤ r.target))

pub is_above_lem : (before r : MoveRecord) → is_above before r ≡ true → Above before r
is_above_lem before r e =
    by_tests (ltb before.from r.from) (eqb before.from r.from) (ltb before.target r.target) refl refl
    refl e
  where
    by_tests : (a b c : Bool) → ltb before.from r.from ≡ a → eqb before.from r.from ≡ b
        → ltb before.target r.target ≡ c → a || (b && c) ≡ true → Above before r
    by_tests true b c x y z q = inl (ltb-true before.from r.from x)
    by_tests false true true x y z q =
        inr (eqb-true before.from r.from y, omega (arith, ltb-true before.target r.target z))
    by_tests false true false x y z q = never (cc)
    by_tests false false c x y z q = never (cc)

above_is : (before r : MoveRecord) → Above before r → is_above before r ≡ true
above_is before r (inl more) = simp (lt-ltb before.from r.from more)
above_is before r (inr same) =
    let target : before.target < r.target = omega arith in
    by_bool (ltb before.from r.from) (eq-eqb before.from r.from same.0) (lt-ltb _ _ target)
  where
    by_bool : (a : Bool) {b c : Bool} → b ≡ true → c ≡ true → a || (b && c) ≡ true
    by_bool true e f = refl
    by_bool false e f = rw (e, f)

-- If all are counted, they are in order.
ordered_after : (size : ℕ) (before : MoveRecord) (rs : List MoveRecord) → rising_after size before rs ≡ length rs
    → Ordered size before.from (before.target + 1) rs
unfolding rising_after
ordered_after size before [] e = tt
ordered_after size before (r ∷ rs) e =
    by_tests (is_move size r) (is_above before r) refl refl e (ordered_after size r rs)
  where
    by_tests : (a b : Bool) → is_move size r ≡ a → is_above before r ≡ b
        → pick (a && b) (suc (rising_after size r rs)) 0 ≡ suc (length rs)
        → (rising_after size r rs ≡ length rs → Ordered size r.from (r.target + 1) rs)
        → Ordered size before.from (before.target + 1) (r ∷ rs)
    by_tests true true x y q onward = (is_sound size r x, is_above_lem before r y, onward (omega arith))
    by_tests true false x y q onward = absurd (omega arith)
    by_tests false b x y q onward = absurd (omega arith)

pub rising_ordered : (size : ℕ) (records : List MoveRecord) → rising size records ≡ length records
    → Ordered size 0 0 records
unfolding rising
rising_ordered size [] e = tt
rising_ordered size (r ∷ rs) e =
    by_test (is_move size r) refl e
  where
    by_test : (a : Bool) → is_move size r ≡ a → pick a (suc (rising_after size r rs)) 0 ≡ suc (length rs)
        → Ordered size 0 0 (r ∷ rs)
    by_test true x q = (
      is_sound size r x,
      dite (ℕ_discrete 0 r.from) (λ first. inr (first, omega arith)) (λ later. inl (omega arith)),
      ordered_after size r rs (omega arith),
    )
    by_test false x q = absurd (omega arith)

-- And the other way.
after_ordered : (size : ℕ) (before : MoveRecord) (rs : List MoveRecord)
    → Ordered size before.from (before.target + 1) rs → rising_after size before rs ≡ length rs
unfolding rising_after
after_ordered size before [] o = refl
after_ordered size before (r ∷ rs) o =
    rw (sound_is size r o.0, above_is before r o.1) (ap suc (after_ordered size r rs o.2))

pub ordered_rising : (size : ℕ) (records : List MoveRecord) → Ordered size 0 0 records
    → rising size records ≡ length records
unfolding rising
ordered_rising size [] o = refl
ordered_rising size (r ∷ rs) o = rw (sound_is size r o.0) (ap suc (after_ordered size r rs o.2))
