-- With one frame the reads are the one_page reads: after each reference the page referred to is the only one held,
-- since what leaves can be no other than the one page held before.
use mathlib.Core.List.Memᴰ
use Rattle.common.proofs.Ground.{◌≡◌, refl, ap, sym, List, [], ◌∷◌, ℕ, eqb, eqb-true, eqb-false, Memᴰ-head}
use Rattle.common.proofs.Cases.{by_pick}
use Rattle.net.specs.Net.{changes, one_page_reads}
use Rattle.net.proofs.Basics.Tests.{same_test}
use Rattle.paging.specs.Store.{holds, leaving, after_reference, reads_from}
use Rattle.paging.proofs.Held.{held_member, member_held, not_member_not_held, without_first}
use Rattle.paging.proofs.Leaving.{leaving_member}

-- Where one page is held, a page is held if it is that one.
holds-one : (p x : ℕ) → holds p (x ∷ []) ≡ eqb x p
holds-one p x = same_test (eqb x p) (holds p (x ∷ []))
    (λ same. member_held p (x ∷ []) (Memᴰ-head (sym (eqb-true x p same))))
    (λ other. not_member_not_held p (x ∷ []) (λ m. eqb-false x p other (sym (Memᴰ.eq_of_singleton m))))

module _ (pages : ℕ) (distances : List ℕ) (threshold : ℕ) where
  -- After a reference to p only p is held: the one page held before was p, or it leaves.
  after_one : (p x : ℕ) → after_reference pages distances threshold 1 p (x ∷ []) ≡ p ∷ []
  unfolding after_reference
  after_one p x = ap (λ l. p ∷ l) (by_pick (λ l. l ≡ []) (holds p (x ∷ []))
      (λ hit. without_first p x [] (Memᴰ.eq_of_singleton (held_member p (x ∷ []) hit)))
      (λ miss. without_first (leaving pages distances threshold (x ∷ [])) x []
      (Memᴰ.eq_of_singleton (leaving_member pages distances threshold x []))))

  reads_after_one : (x : ℕ) (list : List ℕ) → reads_from pages distances threshold 1 (x ∷ []) list ≡ changes x list
  unfolding reads_from changes
  reads_after_one x [] = refl
  reads_after_one x (p ∷ list) = rw (holds-one p x, after_one p x, reads_after_one p list)

  -- From an empty store the first reference is a read, and then each change of page.
  pub one-frame_reads : (list : List ℕ) → reads_from pages distances threshold 1 [] list ≡ one_page_reads list
  unfolding reads_from one_page_reads after_reference holds
  one-frame_reads [] = refl
  one-frame_reads (p ∷ list) = rw (reads_after_one p list)
