-- Whole numbers as 64-bit floats: up to 2 ^ 53 a float is exactly the number, and no float is two numbers.
use Rattle.common.proofs.Ground.{◌≡◌, ap, sym, ◌∙◌, Bool, false, not, true≢false, ℕ, ◌^◌, ◌≤◌}
use native.Mathlib.Nat.{eq_of_mul-eq-mul_right}
use lib.Ieee.{Float, nan, inf, fin, binary64, down, of_int, neg}
use lib.Ieee.Fits.{down_pos}
use lib.Ieee.Exact.{HasValue}
use lib.Ieee.Back.{round_whole}
use Rattle.panel.specs.Panel.{float}
use Rattle.panel.specs.Promises.{Is, IsMinus}

pub float_is : (n : ℕ) → n ≤ 2 ^ 53 → Is (float n) n
unfolding of_int
float_is n small = round_whole binary64 false n small

negated : (x : Float) (n : ℕ) → Is x n → IsMinus (neg x) n
unfolding neg
negated nan n is = absurd is
negated (inf sign) n is = absurd is
negated (fin sign m e) n is = (ap not is.0, is.1)

pub minus_is : (n : ℕ) → n ≤ 2 ^ 53 → IsMinus (neg (float n)) n
minus_is n small = negated (float n) n (float_is n small)

pub one_number : (x : Float) (sign : Bool) (n k : ℕ) → HasValue x sign n 1 → HasValue x sign k 1 → n ≡ k
one_number nan sign n k v w = absurd v
one_number (inf s) sign n k v w = absurd v
one_number (fin s m e) sign n k v w = eq_of_mul-eq-mul_right (down e) (down_pos e) n k (sym v.1 ∙ w.1)

pub one_sign : (x : Float) (n k : ℕ) → Is x n → IsMinus x k → ⊥
one_sign nan n k v w = v
one_sign (inf s) n k v w = v
one_sign (fin s m e) n k v w = true≢false (sym w.0 ∙ v.0)
