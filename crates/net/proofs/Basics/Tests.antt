-- Tests joined by `&&` and `||` taken apart and put together, and the cases of two numbers. Each is by the cases of
-- its tests.
use Rattle.common.proofs.Ground.{◌≡◌, refl, Bool, true, false, not, ◌&&◌, ◌||◌, ◌⊎◌, inl, inr, ℕ, suc, ◌<◌, arith}
use Rattle.common.proofs.Ground.{ltb, ltb-true, ltb-false}

pub and_left : (a b : Bool) → a && b ≡ true → a ≡ true
and_left true b e = refl
and_left false b e = e

pub and_right : (a b : Bool) → a && b ≡ true → b ≡ true
and_right true b e = e
and_right false b e = cc

pub and-true : (a b : Bool) → a ≡ true → b ≡ true → a && b ≡ true
and-true a b e f = rw (e, f)

pub and_none : (a : Bool) → a && false ≡ false
and_none true = refl
and_none false = refl

pub not_of_false : (b : Bool) → b ≡ false → not b ≡ true
not_of_false b e = rw e

pub or_left : (a b : Bool) → a ≡ true → a || b ≡ true
or_left a b e = rw e

pub or_right : (a b : Bool) → b ≡ true → a || b ≡ true
or_right true b e = refl
or_right false b e = e

pub or_cases : (a b : Bool) → a || b ≡ true → (a ≡ true) ⊎ (b ≡ true)
or_cases true b e = inl refl
or_cases false b e = inr e

pub false_of : (b : Bool) → (b ≡ true → ⊥) → b ≡ false
false_of true n = absurd (n refl)
false_of false n = refl

pub true_of : (b : Bool) → (b ≡ false → ⊥) → b ≡ true
true_of true n = refl
true_of false n = absurd (n refl)

pub same_test : (a b : Bool) → (a ≡ true → b ≡ true) → (a ≡ false → b ≡ false) → b ≡ a
same_test true b h k = h refl
same_test false b h k = k refl

pub below_or_last : (k n : ℕ) → k < suc n → (k < n) ⊎ (k ≡ n)
below_or_last k n h = go (ltb k n) refl
  where
    go : (t : Bool) → ltb k n ≡ t → (k < n) ⊎ (k ≡ n)
    go true e = inl (ltb-true k n e)
    go false e = inr (omega (arith, ltb-false k n e))
