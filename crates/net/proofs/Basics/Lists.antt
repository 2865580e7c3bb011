-- Page lists: what one more reference does to how often a page stands in a list; and that a part of a list, entries
-- left out and order kept, takes no more one_page reads. The latter by a triangle: to hold another page first saves
-- nothing.
use Rattle.common.proofs.Ground.{◌≡◌, refl, Bool, true, false, not, List, [], ◌∷◌, ◌++◌, append-nil, Memᴰ}
use Rattle.common.proofs.Ground.{Memᴰ-head, Memᴰ-tail, Sublistᴰ, Sublistᴰ-slnil, Sublistᴰ-cons}
use Rattle.common.proofs.Ground.{Sublistᴰ-cons_cons, Sublistᴰ-append, Sublistᴰ-refl, Sublistᴰ-nil_sublist, ℕ, suc, ◌+◌}
use Rattle.common.proofs.Ground.{◌≤◌, ◌<◌, arith, length, length-append, eqb, eqb-true, eq-eqb}
use Rattle.net.specs.Net.{one, times_in, changes, one_page_reads}

-- one more reference
pub part_left_out : {l m : List ℕ} (p : ℕ) → Sublistᴰ l m → Sublistᴰ l (m ++ (p ∷ []))
part_left_out {l} p h = rw (append-nil l) at (Sublistᴰ-append h (Sublistᴰ-nil_sublist (p ∷ [])))

pub part_kept : {l m : List ℕ} (p : ℕ) → Sublistᴰ l m → Sublistᴰ (l ++ (p ∷ [])) (m ++ (p ∷ []))
part_kept p h = Sublistᴰ-append h (Sublistᴰ-refl (p ∷ []))

pub length-one_more : (l : List ℕ) (p : ℕ) → length (l ++ (p ∷ [])) ≡ suc (length l)
length-one_more l p = omega (arith, length-append l (p ∷ []))

pub times_in-one_more : (p q : ℕ) (l : List ℕ) → times_in p (l ++ (q ∷ [])) ≡ times_in p l + one (eqb p q)
unfolding times_in
times_in-one_more p q [] = omega arith
times_in-one_more p q (x ∷ l) = omega (arith, times_in-one_more p q l)

-- whatever stands in a list stands there at least once
pub listed_counts : (p : ℕ) (l : List ℕ) → Memᴰ p l → 0 < times_in p l
unfolding times_in
listed_counts p [] none = elim none [ ]
listed_counts p (q ∷ l) (Memᴰ-head e) = rw (eq-eqb p q e) (omega arith)
listed_counts p (q ∷ l) (Memᴰ-tail m) = omega (arith, listed_counts p l m)

pub times_in_more : (p : ℕ) (l m : List ℕ) → times_in p l ≤ times_in p (l ++ m)
unfolding times_in
times_in_more p [] m = omega arith
times_in_more p (q ∷ l) m = omega (arith, times_in_more p l m)

-- 1 where x and y are unlike
abbrev unlike : ℕ → ℕ → ℕ
unlike x y = one (not (eqb x y))

unlike_triangle : (x y z : ℕ) → unlike x z ≤ unlike x y + unlike y z
unlike_triangle x y z = go (eqb x y) (eqb y z) refl refl
  where
    at_most : (b : Bool) → one (not b) ≤ 1
    at_most true = omega arith
    at_most false = omega arith

    go : (a b : Bool) → eqb x y ≡ a → eqb y z ≡ b → unlike x z ≤ one (not a) + one (not b)
    go false b e f = omega (arith, at_most (eqb x z))
    go true b e f = rw (eqb-true x y e) (rw f (omega arith))

changes_triangle : (x y : ℕ) (l : List ℕ) → changes x l ≤ unlike x y + changes y l
unfolding changes
changes_triangle x y [] = omega arith
changes_triangle x y (z ∷ l) = omega (arith, unlike_triangle x y z)

changes-part : {l m : List ℕ} (x : ℕ) → Sublistᴰ l m → changes x l ≤ changes x m
unfolding changes
changes-part x Sublistᴰ-slnil = omega arith
changes-part x (Sublistᴰ-cons {a = a} {l₁ = l} {l₂ = m} h) = omega (arith, changes_triangle x a l, changes-part a h)
changes-part x (Sublistᴰ-cons_cons {a = a} {b = b} {l₁ = l} {l₂ = m} e h) = rw e (omega (arith, changes-part b h))

reads_after_first : (a : ℕ) (m : List ℕ) → one_page_reads m ≤ suc (changes a m)
unfolding one_page_reads changes
reads_after_first a [] = omega arith
reads_after_first a (b ∷ m) = omega arith

pub part_reads : {l m : List ℕ} → Sublistᴰ l m → one_page_reads l ≤ one_page_reads m
unfolding one_page_reads
part_reads Sublistᴰ-slnil = omega arith
part_reads (Sublistᴰ-cons {a = a} {l₁ = l} {l₂ = m} h) = omega (arith, part_reads h, reads_after_first a m)
part_reads (Sublistᴰ-cons_cons {a = a} {b = b} {l₁ = l} {l₂ = m} e h) = rw e (omega (arith, changes-part b h))
