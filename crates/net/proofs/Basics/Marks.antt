-- The marks: to settle a station changes no station's freshness and settles no other; to mark it fresh, or no longer
-- fresh, changes no station's settledness. By arithmetic on one mark, and by reading a table after one entry was set.
use Rattle.common.proofs.Ground.{◌≡◌, refl, ap, true, ◌≢◌, dite, List, [], ◌∷◌, ℕ, zero, suc, ◌%◌, ◌≤◌, ◌<◌, arith}
use Rattle.common.proofs.Ground.{ℕ_discrete, length, get_or, set, replicate, get_or-set_same, get_or-set_other, leb, eqb}
use Rattle.common.proofs.Ground.{leb-true, leb-false, le-leb, lt-leb, eq-eqb}
use Rattle.net.specs.Search.{State, mark_of, is_settled, is_fresh, settle, mark_fresh}
use Rattle.net.proofs.Basics.Tests.{same_test}

-- what holds of all entries, and of the entry set
pub set_all : {A : Type 0} (P : A → Type 0) (l : List A) (i k : ℕ) (a d : A) → P a → P (get_or l k d)
    → P (get_or (set l i a) k d)
set_all P [] i k a d p q = q
set_all P (x ∷ l) zero zero a d p q = p
set_all P (x ∷ l) zero (suc k) a d p q = q
set_all P (x ∷ l) (suc i) zero a d p q = q
set_all P (x ∷ l) (suc i) (suc k) a d p q = set_all P l i k a d p q

-- one mark: the same entry in every place
pub get_d_replicate_same : {A : Type 0} (n i : ℕ) (a : A) → get_or (replicate n a) i a ≡ a
get_d_replicate_same zero i a = refl
get_d_replicate_same (suc n) zero a = refl
get_d_replicate_same (suc n) (suc i) a = get_d_replicate_same n i a

-- two marks of which both or neither are fresh, or settled
pub marks_fresh_alike : (m n : ℕ) → (2 ≤ n → 2 ≤ m) → (n < 2 → m < 2) → leb 2 m ≡ leb 2 n
marks_fresh_alike m n up down = same_test (leb 2 n) (leb 2 m) (λ e. le-leb 2 m (up (leb-true 2 n e)))
    (λ e. lt-leb 2 m (down (leb-false 2 n e)))

pub marks_settled_alike : (m n : ℕ) → m % 2 ≡ n % 2 → eqb (m % 2) 1 ≡ eqb (n % 2) 1
marks_settled_alike m n e = ap (λ k. eqb k 1) e

module _ (s : State) (v : ℕ) (small : v < length s.marks) where
  pub settle_settles : is_settled (settle v s) v ≡ true
  settle_settles = eq-eqb (mark_of (settle v s) v % 2) 1 (rw get_or-set_same (omega arith))

  pub settle_other : (x : ℕ) → x ≢ v → is_settled (settle v s) x ≡ is_settled s x
  settle_other x ne = rw get_or-set_other

  pub settle_fresh : (x : ℕ) → is_fresh (settle v s) x ≡ is_fresh s x
  settle_fresh x = dite (ℕ_discrete x v)
      (λ q. rw q (marks_fresh_alike (mark_of (settle v s) v) (mark_of s v) (λ h. rw get_or-set_same (omega arith))
      (λ h. rw get_or-set_same (omega arith))))
      (λ ne. rw get_or-set_other)

  pub mark_fresh_own : is_fresh (mark_fresh v s) v ≡ true
  mark_fresh_own = le-leb 2 (mark_of (mark_fresh v s) v) (rw get_or-set_same (omega arith))

  pub mark_fresh_other : (x : ℕ) → x ≢ v → is_fresh (mark_fresh v s) x ≡ is_fresh s x
  mark_fresh_other x ne = rw get_or-set_other

  pub mark_fresh_settled : (x : ℕ) → is_settled (mark_fresh v s) x ≡ is_settled s x
  mark_fresh_settled x = dite (ℕ_discrete x v)
      (λ q. rw q (marks_settled_alike (mark_of (mark_fresh v s) v) (mark_of s v) (rw get_or-set_same (omega arith))))
      (λ ne. rw get_or-set_other)
