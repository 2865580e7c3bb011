-- A number's digits, as `spell` writes them: from the last to the first, those of the rest of the number belonging
-- before them.
use Rattle.common.proofs.Ground.{◌≡◌, ap, sym, ◌∙◌, Bool, true, false, List, [], ◌∷◌, ◌++◌, append_assoc, append-nil}
use Rattle.common.proofs.Ground.{ℕ, zero, suc, ◌+◌, ◌-◌, ◌/◌, ◌%◌, ◌^◌, ◌≤◌, ◌<◌, arith, pow-suc, div-lt_iff_lt-mul}
use Rattle.common.proofs.Ground.{length, take, drop, set, length-drop, length-append, length-set, drop_of_length-le}
use Rattle.common.proofs.Ground.{take_all, drop-cons, drop-set-lt, get_or-set_same, ltb, lt-ltb, le-ltb}
use Rattle.common.specs.Pick.{pick}
use Rattle.text.specs.Text.{digits, decimal}

-- A number less its last digit is below a power of ten less.
pub shorter : (k n : ℕ) → n < 10 ^ suc k → n / 10 < 10 ^ k
shorter k n h = (div-lt_iff_lt-mul {k = 10} {x = n} {y = 10 ^ k} (omega arith)).1 (rw pow-suc at h)

one_digit : (k n : ℕ) → n < 10 → digits (suc k) n ≡ (48 + n % 10) ∷ []
unfolding digits
one_digit k n h = rw (lt-ltb n 10 h)

more_digits : (k n : ℕ) → 10 ≤ n → digits (suc k) n ≡ digits k (n / 10) ++ (48 + n % 10) ∷ []
unfolding digits
more_digits k n h = rw (le-ltb n 10 h)

-- So many digits at most.
pub digits_most : (most n : ℕ) → length (digits most n) ≤ most
unfolding digits
digits_most zero n = omega arith
digits_most (suc most) n = by_size (ltb n 10) (digits_most most (n / 10))
  where
    by_size : (b : Bool) → length (digits most (n / 10)) ≤ most
        → length (pick b [] (digits most (n / 10)) ++ (48 + n % 10) ∷ []) ≤ suc most
    by_size true h = omega arith
    by_size false h = rw (length-append (digits most (n / 10))) (omega arith)

-- A number of two digits is below no power of ten but those from a hundred on.
some_left : (k : ℕ) {n : ℕ} → n < 10 ^ suc k → 10 ≤ n → 0 < k
some_left zero h two = absurd (omega arith)
some_left (suc k) h two = omega arith

-- A digit put before those that stand from a place on.
digit_before : (text : List ℕ) (at digit : ℕ) → at < length text
    → drop at (set text at digit) ≡ digit ∷ drop (suc at) text
digit_before text at digit inside =
    drop-cons (set text at digit) at 0 (omega (arith, length-set text at digit)) ∙
    rw (get_or-set_same text at digit 0 inside, drop-set-lt (suc at) text at digit (omega arith))

module _ (n : ℕ) where
  -- The digits of the rest belong before those that stand from a place on.
  pub record Spelling (text : List ℕ) (rest at : ℕ) : Type 0 where
    pub spelled : digits at rest ++ drop at text ≡ decimal n
    pub below : rest < 10 ^ at
    pub some : 0 < at
    pub within : at ≤ 20
    pub size : length text ≡ 20

  pub spell_start : (text : List ℕ) → length text ≡ 20 → n < 18446744073709551616 → Spelling text n 20
  spell_start text size fits = record {
    spelled = rw (drop_of_length-le text {i = 20} (omega arith)) (append-nil (decimal n));
    below = omega arith;
    some = omega arith;
    within = omega arith;
    size = size;
  }

  -- A turn: the rest's last digit is put at the place before.
  module _ (text : List ℕ) (rest at before digit : ℕ) (e : at ≡ suc before) (is : digit ≡ 48 + rest % 10) where
    pub spell_last : Spelling text rest at → rest < 10 → drop before (set text before digit) ≡ decimal n
    spell_last s h =
        let spelled = rw (e, one_digit before rest h) at s.spelled in
        digit_before text before digit (omega (arith, s.size, s.within)) ∙
        ap (λ d. d ∷ drop (suc before) text) is ∙ spelled

    pub spell_more : Spelling text rest at → 10 ≤ rest → Spelling (set text before digit) (rest / 10) before
    spell_more s h = record {
      spelled =
          let spelled = rw (e, more_digits before rest h) at s.spelled in
          ap (λ l. digits before (rest / 10) ++ l)
          (digit_before text before digit (omega (arith, s.size, s.within))) ∙
          ap (λ d. digits before (rest / 10) ++ d ∷ drop (suc before) text) is ∙
          sym (append_assoc (digits before (rest / 10)) ((48 + rest % 10) ∷ []) (drop (suc before) text)) ∙ spelled;
      below = shorter before rest (rw e at s.below);
      some = some_left before (rw e at s.below) h;
      within = omega (arith, s.within);
      size = length-set text before digit ∙ s.size;
    }

-- What is lent of a text from the first digit on is the number's digits.
pub from_first : (text digits : List ℕ) (from : ℕ) → length text ≡ 20 → drop from text ≡ digits
    → take (20 - from) (drop from text) ≡ digits
from_first text digits from size e = take_all (20 - from) (drop from text) (omega (arith, length-drop from text)) ∙ e
