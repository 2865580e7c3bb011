-- What `decimal` is: read back, digit by digit, it is the number; it begins with no zero, but for the number 0, which
-- is one digit. Both by induction on the number of digits.
use Rattle.common.proofs.Ground.{◌≡◌, refl, ◌∙◌, Bool, true, false, List, [], ◌∷◌, ◌++◌, ℕ, zero, suc, ◌+◌, ◌-◌, ◌*◌}
use Rattle.common.proofs.Ground.{◌/◌, ◌%◌, ◌^◌, ◌≤◌, ◌<◌, arith, div-add-mod', get_or, ltb, ltb-true, ltb-false}
use Rattle.common.specs.Pick.{pick}
use Rattle.text.specs.Text.{ascii, digits, decimal}
use Rattle.text.proofs.Digits.{shorter}

-- The number that a row of digits means, behind one read before.
pub read_on : ℕ → List ℕ → ℕ
read_on n [] = n
read_on n (d ∷ ds) = read_on (n * 10 + (d - 48)) ds

read-last : (n d : ℕ) (ds : List ℕ) → read_on n (ds ++ d ∷ []) ≡ read_on n ds * 10 + (d - 48)
unfolding read_on
read-last n d [] = refl
read-last n d (x ∷ ds) = read-last (n * 10 + (x - 48)) d ds

digits_read : (most n : ℕ) → n < 10 ^ most → read_on 0 (digits most n) ≡ n
unfolding digits read_on
digits_read zero n h = omega arith
digits_read (suc most) n h = by_size (ltb n 10) refl (digits_read most (n / 10) (shorter most n h))
  where
    by_size : (b : Bool) → ltb n 10 ≡ b → read_on 0 (digits most (n / 10)) ≡ n / 10
        → read_on 0 (pick b [] (digits most (n / 10)) ++ (48 + n % 10) ∷ []) ≡ n
    by_size true e r = omega (arith, ltb-true n 10 e)
    by_size false e r =
        read-last 0 (48 + n % 10) (digits most (n / 10)) ∙ omega (arith, r, div-add-mod' n 10)

pub decimal-read : (n : ℕ) → n < 10 ^ 20 → read_on 0 (decimal n) ≡ n
decimal-read n h = digits_read 20 n h

first_stays : (d : ℕ) (ds : List ℕ) → 49 ≤ get_or ds 0 0 → 49 ≤ get_or (ds ++ d ∷ []) 0 0
first_stays d [] h = absurd (omega arith)
first_stays d (x ∷ ds) h = h

digits_first : (most n : ℕ) → n < 10 ^ most → 0 < n → 49 ≤ get_or (digits most n) 0 0
unfolding digits
digits_first zero n h some = absurd (omega arith)
digits_first (suc most) n h some = by_size (ltb n 10) refl (digits_first most (n / 10) (shorter most n h))
  where
    by_size : (b : Bool) → ltb n 10 ≡ b → (0 < n / 10 → 49 ≤ get_or (digits most (n / 10)) 0 0)
        → 49 ≤ get_or (pick b [] (digits most (n / 10)) ++ (48 + n % 10) ∷ []) 0 0
    by_size true e first = omega (arith, ltb-true n 10 e)
    by_size false e first =
        first_stays (48 + n % 10) (digits most (n / 10)) (first (omega (arith, ltb-false n 10 e)))

-- 49 is the digit 1
pub decimal_first : (n : ℕ) → n < 10 ^ 20 → 0 < n → 49 ≤ get_or (decimal n) 0 0
decimal_first n h some = digits_first 20 n h some

pub decimal-zero : decimal 0 ≡ ascii "0"
unfolding digits ascii
decimal-zero = refl
