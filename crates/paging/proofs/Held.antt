-- The pages that a store holds, and what is left without one of them: by induction over the pages, and by whether the
-- first is the one.
use mathlib.Core.List.Sublistᴰ as ListSublistᴰ
use Rattle.common.proofs.Ground.{◌≡◌, refl, ap, true, false, dite, ⊎_elim, List, [], ◌∷◌, Memᴰ, ℕ, suc}
use Rattle.common.proofs.Ground.{Memᴰ-cases_cons, Memᴰ-head, Memᴰ-tail, Memᴰ-not_nil, Sublistᴰ}
use Rattle.common.proofs.Ground.{Sublistᴰ-slnil, Sublistᴰ-cons, Sublistᴰ-cons_cons}
use Rattle.common.proofs.Ground.{Sublistᴰ-refl, ℕ_discrete, length, eqb, eqb-true, eq-eqb, ne_eqb, sym, ◌∙◌, ◌<◌, arith}
use Rattle.common.proofs.Ground.{zero, get_or}
use Rattle.common.proofs.Cases.{never}
use Rattle.net.proofs.Basics.Tests.{or_cases, or_left, or_right, false_of}
use Rattle.paging.specs.Store.{holds, without}

-- A page is held exactly if it is a member.
pub held_member : (p : ℕ) (held : List ℕ) → holds p held ≡ true → Memᴰ p held
unfolding holds
held_member p [] e = never (cc)
held_member p (q ∷ held) e = ⊎_elim
    (λ same. Memᴰ-head (eqb-true p q same))
    (λ later. Memᴰ-tail (held_member p held later))
    (or_cases (eqb p q) (holds p held) e)

pub member_held : (p : ℕ) (held : List ℕ) → Memᴰ p held → holds p held ≡ true
unfolding holds
member_held p [] x' = elim x' [ ]
member_held p (q ∷ held) (Memᴰ-head e) = or_left (eqb p q) (holds p held) (eq-eqb p q e)
member_held p (q ∷ held) (Memᴰ-tail m) = or_right (eqb p q) (holds p held) (member_held p held m)

pub not_held_not_member : (p : ℕ) (held : List ℕ) → holds p held ≡ false → Memᴰ p held → ⊥
not_held_not_member p held e m = never (cc (member_held p held m))

pub not_member_not_held : (p : ℕ) (held : List ℕ) → (Memᴰ p held → ⊥) → holds p held ≡ false
not_member_not_held p held not_member = false_of (holds p held) (λ e. not_member (held_member p held e))

pub member_at : (held : List ℕ) (i : ℕ) → i < length held → Memᴰ (get_or held i 0) held
member_at [] i h = absurd (omega arith)
member_at (p ∷ held) zero h = Memᴰ-head refl
member_at (p ∷ held) (suc i) h = Memᴰ-tail (member_at held i (omega arith))

-- Without the first page, or without another.
pub without_first : (p q : ℕ) (held : List ℕ) → p ≡ q → without p (q ∷ held) ≡ held
unfolding without
without_first p q held same = rw (eq-eqb p q same)

pub without_later : (p q : ℕ) (held : List ℕ) → (p ≡ q → ⊥) → without p (q ∷ held) ≡ q ∷ without p held
unfolding without
without_later p q held other = rw (ne_eqb p q other)

-- Without a page that is not held all stay; without one that is held there is one page fewer.
pub without_none : (p : ℕ) (held : List ℕ) → holds p held ≡ false → without p held ≡ held
unfolding without
without_none p [] e = refl
without_none p (q ∷ held) e =
    let not_member = not_held_not_member p (q ∷ held) e in
    without_later p q held (λ same. not_member (Memᴰ-head same)) ∙
    ap (λ l. q ∷ l) (without_none p held (not_member_not_held p held (λ m. not_member (Memᴰ-tail m))))

pub without-length : (p : ℕ) (held : List ℕ) → holds p held ≡ true → suc (length (without p held)) ≡ length held
without-length p held e = by_member held (held_member p held e)
  where
    by_member : (l : List ℕ) → Memᴰ p l → suc (length (without p l)) ≡ length l
    by_member [] m = elim m [ ]
    by_member (q ∷ l) m = dite (ℕ_discrete p q)
        (λ same. rw (without_first p q l same))
        (λ other. rw (without_later p q l other)
        (⊎_elim (λ same. absurd (other same)) (λ later. ap suc (by_member l later)) (Memᴰ-cases_cons m)))

-- The other pages stay.
pub others_stay : (p : ℕ) (held : List ℕ) (q : ℕ) → (q ≡ p → ⊥) → Memᴰ q held → Memᴰ q (without p held)
others_stay p [] q other m = elim m [ ]
others_stay p (r ∷ held) q other m = dite (ℕ_discrete p r)
    (λ same. rw (without_first p r held same)
    (⊎_elim (λ here. absurd (other (here ∙ sym same))) (λ later. later) (Memᴰ-cases_cons m)))
    (λ unlike. rw (without_later p r held unlike)
    (⊎_elim (λ here. Memᴰ-head here) (λ later. Memᴰ-tail (others_stay p held q other later))
    (Memᴰ-cases_cons m)))

-- What is left without a page is a part of what was held.
pub without-part : (p : ℕ) (held : List ℕ) → Sublistᴰ (without p held) held
unfolding without
without-part p [] = Sublistᴰ-slnil
without-part p (q ∷ held) = dite (ℕ_discrete p q)
    (λ same. rw (without_first p q held same) (Sublistᴰ-cons (Sublistᴰ-refl held)))
    (λ other. rw (without_later p q held other) (Sublistᴰ-cons_cons refl (without-part p held)))

-- Without a page a part stays a part, and one that does not hold the page is a part of what is left without it.
pub without_both : (p : ℕ) {small large : List ℕ} → Sublistᴰ small large → Sublistᴰ (without p small) (without p large)
unfolding without
without_both p Sublistᴰ-slnil = Sublistᴰ-slnil
without_both p (Sublistᴰ-cons {a = q} {l₁ = small} {l₂ = large} part) = dite (ℕ_discrete p q)
    (λ same. rw (without_first p q large same) (ListSublistᴰ.trans (without-part p small) part))
    (λ other. rw (without_later p q large other) (Sublistᴰ-cons (without_both p part)))
without_both p (Sublistᴰ-cons_cons {a = q} {b = r} {l₁ = small} {l₂ = large} e part) = dite (ℕ_discrete p q)
    (λ same. rw (without_first p q small same, without_first p r large (same ∙ e)) part)
    (λ other. rw (without_later p q small other, without_later p r large (λ same. other (same ∙ sym e)))
    (Sublistᴰ-cons_cons e (without_both p part)))

pub without_other : (p : ℕ) {small large : List ℕ} → holds p small ≡ false → Sublistᴰ small large
    → Sublistᴰ small (without p large)
without_other p {small} not_held part = rw (without_none p small not_held) at (without_both p part)

pub part_member : {x : ℕ} {l m : List ℕ} → Sublistᴰ l m → Memᴰ x l → Memᴰ x m
part_member Sublistᴰ-slnil k = elim k [ ]
part_member (Sublistᴰ-cons h) k = Memᴰ-tail (part_member h k)
part_member (Sublistᴰ-cons_cons e h) (Memᴰ-head f) = Memᴰ-head (f ∙ e)
part_member (Sublistᴰ-cons_cons e h) (Memᴰ-tail k) = Memᴰ-tail (part_member h k)

-- Each page stands once. So it does in every part, and a page is not among those left without it.
abbrev pub Distinct : List ℕ → Type 0
Distinct [] = Unit {0}
Distinct (p ∷ held) = (Memᴰ p held → ⊥) × Distinct held

pub part_distinct : {l m : List ℕ} → Sublistᴰ l m → Distinct m → Distinct l
part_distinct Sublistᴰ-slnil d = tt
part_distinct (Sublistᴰ-cons h) d = part_distinct h d.1
part_distinct (Sublistᴰ-cons_cons e h) d = (λ k. d.0 (rw (← e) (part_member h k)), part_distinct h d.1)

pub without_gone : (p : ℕ) (held : List ℕ) → Distinct held → Memᴰ p (without p held) → ⊥
unfolding without
without_gone p [] d m = Memᴰ-not_nil m
without_gone p (q ∷ held) d m = dite (ℕ_discrete p q)
    (λ same. d.0 (rw (← same) (rw (without_first p q held same) at m)))
    (λ other. ⊎_elim other (without_gone p held d.1) (Memᴰ-cases_cons (rw (without_later p q held other) at m)))
