-- What `least` finds: a number below n that passes the test and comes before every other such, by key and then by
-- number; or nobody, and then none passes. By induction on n. And only that: whoever is such a number is the one found.
use Rattle.common.proofs.Ground.{◌≡◌, refl, sym, ◌∙◌, ap, subst, Bool, true, false, true≢false, ⊎_elim, ℕ, zero, suc}
use Rattle.common.proofs.Ground.{◌≤◌, ◌<◌, arith, not-suc-le-zero, lt-ltb, le-ltb}
use Rattle.common.proofs.Cases.{le-or-lt}
use Rattle.net.specs.declared.Choice.{Choice}
use Rattle.net.specs.declared.Choice.TheVariants.{Station, Nobody}
use Rattle.net.specs.Search.{better, least}
use Rattle.net.proofs.Basics.Tests.{below_or_last}

-- m comes before k: by key, then by number
pub record Before (key : ℕ → ℕ) (m k : ℕ) : Type 0 where
  pub low : key m ≤ key k
  pub tie : key k ≤ key m → m ≤ k

pub record Lowest (key : ℕ → ℕ) (test : ℕ → Bool) (n m : ℕ) : Type 0 where
  pub inside : m < n
  pub passes : test m ≡ true
  pub first : (k : ℕ) → k < n → test k ≡ true → Before key m k

abbrev pub LeastIs : (ℕ → ℕ) → (ℕ → Bool) → ℕ → Choice → Type 0
LeastIs key test n Nobody = (k : ℕ) → k < n → test k ≡ false
LeastIs key test n (Station m) = Lowest key test n m

module _ (key : ℕ → ℕ) (test : ℕ → Bool) where
  -- what holds of each below n, and of n, holds of each below suc n
  and_last : (P : ℕ → Type 0) (n : ℕ) → ((k : ℕ) → k < n → P k) → P n → (k : ℕ) → k < suc n → P k
  and_last P n h p k lt = ⊎_elim (h k) (λ e. rw e p) (below_or_last k n lt)

  -- of two with the same key the lower stays, and a nearer one takes its place
  pub no_nearer_stays : (n m : ℕ) → key m ≤ key n → better key n true (Station m) ≡ Station m
  no_nearer_stays n m le = simp (le-ltb (key n) (key m) le)

  pub nearer_replaces : (n m : ℕ) → key n < key m → better key n true (Station m) ≡ Station n
  nearer_replaces n m lt = simp (lt-ltb (key n) (key m) lt)

  kept_is_least : (n m : ℕ) → key m ≤ key n → Lowest key test n m → Lowest key test (suc n) m
  kept_is_least n m le c = record {
    inside = omega (arith, c.inside);
    passes = c.passes;
    first = and_last (λ k. test k ≡ true → Before key m k) n c.first
        (λ p. record { low = le; tie = λ h. omega (arith, c.inside) });
  }

  nearer_is_least : (n m : ℕ) → key n < key m → test n ≡ true → Lowest key test n m → Lowest key test (suc n) n
  nearer_is_least n m lt t c = record {
    inside = omega arith;
    passes = t;
    first = and_last (λ k. test k ≡ true → Before key n k) n
        (λ k l p. let b = c.first k l p in record { low = omega arith; tie = λ h. absurd (omega arith) })
        (λ p. record { low = omega arith; tie = λ h. omega arith });
  }

  better_is_least : (n : ℕ) (t : Bool) (b : Choice) → test n ≡ t → LeastIs key test n b
      → LeastIs key test (suc n) (better key n t b)
  better_is_least n false Nobody e c = and_last (λ k. test k ≡ false) n c e
  better_is_least n false (Station m) e c = record {
    inside = omega (arith, c.inside);
    passes = c.passes;
    first = and_last (λ k. test k ≡ true → Before key m k) n c.first (λ p. absurd (true≢false (sym p ∙ e)));
  }
  better_is_least n true Nobody e c = record {
    inside = omega arith;
    passes = e;
    first = and_last (λ k. test k ≡ true → Before key n k) n (λ k lt p. absurd (true≢false (sym p ∙ c k lt)))
        (λ p. record { low = omega arith; tie = λ h. omega arith });
  }
  better_is_least n true (Station m) e c = ⊎_elim
      (λ le. subst (LeastIs key test (suc n)) (sym (no_nearer_stays n m le)) (kept_is_least n m le c))
      (λ lt. subst (LeastIs key test (suc n)) (sym (nearer_replaces n m lt)) (nearer_is_least n m lt e c))
      (le-or-lt (key m) (key n))

  pub least-is : (n : ℕ) → LeastIs key test n (least key test n)
  unfolding least
  least-is zero = λ k h. absurd (not-suc-le-zero h)
  least-is (suc n) = better_is_least n (test n) (least key test n) refl (least-is n)

pub least_alike : (key : ℕ → ℕ) (test other : ℕ → Bool) → ((v : ℕ) → test v ≡ other v) → (n : ℕ)
    → least key test n ≡ least key other n
unfolding least
least_alike key test other same zero = refl
least_alike key test other same (suc n) = rw (same n, least_alike key test other same n)

module _ (key : ℕ → ℕ) (test : ℕ → Bool) (n : ℕ) where
  -- by what it finds
  pub least-cases : (c : Choice) → least key test n ≡ c → LeastIs key test n c
  least-cases c e = rw e at (least-is key test n)

  pub least-found : (u : ℕ) → Lowest key test n u → least key test n ≡ Station u
  least-found u l = by_choice (least key test n) (least-is key test n)
    where
      by_choice : (c : Choice) → LeastIs key test n c → c ≡ Station u
      by_choice Nobody k = absurd (true≢false (sym l.passes ∙ k u l.inside))
      by_choice (Station x) k =
          let a = l.first x k.inside k.passes in
          let b = k.first u l.inside l.passes in
          ap Station (omega (arith, a.tie b.low, b.tie a.low))

  pub least-nobody : ((v : ℕ) → v < n → test v ≡ true → ⊥) → least key test n ≡ Nobody
  least-nobody none = by_choice (least key test n) (least-is key test n)
    where
      by_choice : (c : Choice) → LeastIs key test n c → c ≡ Nobody
      by_choice Nobody k = refl
      by_choice (Station x) k = absurd (none x k.inside k.passes)
