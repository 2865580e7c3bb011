-- How many numbers below n pass a test: never more than n, never fewer where the test is wider, and more where it
-- gained a number. Each is by induction on n.
use Rattle.common.proofs.Ground.{◌≡◌, refl, Bool, true, false, ⊎_elim, ℕ, zero, suc, ◌≤◌, ◌<◌, arith, not-suc-le-zero}
use Rattle.net.specs.Net.{one, count}
use Rattle.net.proofs.Basics.Tests.{below_or_last}

one-le : (b : Bool) → one b ≤ 1
one-le true = omega arith
one-le false = omega arith

one_mono : (a b : Bool) → (a ≡ true → b ≡ true) → one a ≤ one b
one_mono true b h = rw (h refl) (omega arith)
one_mono false b h = omega arith

pub count-le : (p : ℕ → Bool) (n : ℕ) → count p n ≤ n
unfolding count
count-le p zero = omega arith
count-le p (suc n) = omega (arith, one-le (p n), count-le p n)

module _ (p q : ℕ → Bool) where
  pub count_same : (n : ℕ) → ((k : ℕ) → k < n → p k ≡ q k) → count p n ≡ count q n
  unfolding count
  count_same zero e = refl
  count_same (suc n) e = rw (e n (omega arith), count_same n (λ k l. e k (omega arith)))

  pub count_mono : (n : ℕ) → ((k : ℕ) → k < n → p k ≡ true → q k ≡ true) → count p n ≤ count q n
  unfolding count
  count_mono zero h = omega arith
  count_mono (suc n) h = omega (
    arith,
    one_mono (p n) (q n) (h n (omega arith)),
    count_mono n (λ k lt. h k (omega arith)),
  )

  pub count_more : (n : ℕ) → ((k : ℕ) → k < n → p k ≡ true → q k ≡ true) → (u : ℕ) → u < n → p u ≡ false → q u ≡ true
      → count p n < count q n
  unfolding count
  count_more zero h u lt e f = absurd (not-suc-le-zero lt)
  count_more (suc n) h u lt e f =
      let rest : (k : ℕ) → k < n → p k ≡ true → q k ≡ true = λ k l. h k (omega arith) in
      ⊎_elim
      (λ l. omega (arith, one_mono (p n) (q n) (h n (omega arith)), count_more n rest u l e f))
      (λ v. let e' = rw v at e in let f' = rw v at f in rw (e', f') (omega (arith, count_mono n rest)))
      (below_or_last u n lt)

-- whoever passes a test is counted
pub count_some : (p : ℕ → Bool) (n u : ℕ) → u < n → p u ≡ true → 0 < count p n
unfolding count
count_some p zero u lt e = absurd (not-suc-le-zero lt)
count_some p (suc n) u lt e = ⊎_elim
    (λ l. omega (arith, count_some p n u l e))
    (λ v. let e' = rw v at e in rw e' (omega arith))
    (below_or_last u n lt)

-- a test whose count is not below that of a wider one passes whatever that one passes
pub count_full : (p q : ℕ → Bool) (n : ℕ) → ((k : ℕ) → k < n → p k ≡ true → q k ≡ true) → count q n ≤ count p n
    → (u : ℕ) → u < n → q u ≡ true → p u ≡ true
count_full p q n h le u lt e = go (p u) refl
  where
    go : (b : Bool) → p u ≡ b → p u ≡ true
    go true f = f
    go false f = absurd (omega (arith, count_more p q n h u lt f e))
