-- The pages held are looked through from the oldest on for the one that leaves.
use Rattle.common.proofs.Ground.{◌≡◌, refl, ap, sym, ◌∙◌, Bool, true, false, dite, List, [], ◌∷◌, ℕ, zero, suc, ◌-◌}
use Rattle.common.proofs.Ground.{◌≤◌, ◌<◌, arith, ℕ_discrete, length, get_or}
use Rattle.common.specs.Pick.{pick}
use Rattle.paging.specs.Store.{least_recent, is_far, leaving}
use Rattle.paging.proofs.Held.{member_at}
use Rattle.store.specs.Ring.{Ring}
use Rattle.store.proofs.Chain.{back_from, back_from_end}

-- The least recently used of the pages that pass a test is the last that does.
none_at : (test : ℕ → Bool) (held : List ℕ) (other : ℕ)
    → ((j : ℕ) → j < length held → test (get_or held j 0) ≡ false) → least_recent test held other ≡ other
unfolding least_recent
none_at test [] other fails = refl
none_at test (p ∷ held) other fails =
    rw (fails 0 (omega arith)) (none_at test held other (λ j h. fails (suc j) (omega arith)))

last_at : (test : ℕ → Bool) (held : List ℕ) (other i : ℕ) → i < length held → test (get_or held i 0) ≡ true
    → ((j : ℕ) → suc i ≤ j → j < length held → test (get_or held j 0) ≡ false)
    → least_recent test held other ≡ get_or held i 0
unfolding least_recent
last_at test [] other i h is fails = absurd (omega arith)
last_at test (p ∷ held) other zero h is fails =
    rw is (none_at test held p (λ j k. fails (suc j) (omega arith) (omega arith)))
last_at test (p ∷ held) other (suc i) h is fails =
    last_at test held (pick (test p) p other) i (omega arith) is (λ j k l. fails (suc j) (omega arith) (omega arith))

-- The way back from the end has come to p, where so many pages are left, p the last of them; those passed are near.
pub record Walked (far : ℕ → Bool) (held : List ℕ) (p left : ℕ) : Type 0 where
  pub at : p ≡ get_or (255 ∷ held) left 0
  pub inside : left ≤ length held
  pub near : (j : ℕ) → left ≤ j → j < length held → far (get_or held j 0) ≡ false

-- It is that of the pages left, of which there are some.
last_left : (held : List ℕ) (left : ℕ) → 0 < left → get_or (255 ∷ held) left 0 ≡ get_or held (left - 1) 0
last_left held left more =
    let one : left ≡ suc (left - 1) = omega arith in ap (λ n. get_or (255 ∷ held) n 0) one

pub page_left : {far : ℕ → Bool} {held : List ℕ} {p left : ℕ} → Walked far held p left → 0 < left
    → p ≡ get_or held (left - 1) 0
page_left {held = held} {left = left} w more = w.at ∙ last_left held left more

module _ {pages : ℕ} {held older newer : List ℕ} (ring : Ring pages held older newer) (far : ℕ → Bool) where
  pub walked_none : Walked far held (get_or newer 255 0) (length held)
  walked_none = record {
    at = back_from_end older newer 255 held 255 ring.chain;
    inside = omega arith;
    near = λ j h k. absurd (omega arith);
  }

  -- the page at hand is one that is held
  pub page_below : {p left : ℕ} → Walked far held p left → 0 < left → p < pages
  page_below {p} {left} w more =
      rw (page_left w more)
      (ring.below (get_or held (left - 1) 0) (member_at held (left - 1) (omega (arith, w.inside))))

  pub walked_on : {p left : ℕ} → Walked far held p left → 0 < left → far p ≡ false
      → Walked far held (get_or newer p 0) (left - 1)
  walked_on {p} {left} w more is = record {
    at = ap (λ x. get_or newer x 0) (page_left w more)
        ∙ back_from older newer 255 held 255 (left - 1) ring.chain (omega (arith, w.inside));
    inside = omega (arith, w.inside);
    near = λ j h k. dite (ℕ_discrete j (left - 1))
        (λ same. rw (same, ← page_left w more) is)
        (λ other. w.near j (omega arith) k);
  }

-- The first that is far leaves; if none is, the oldest.
module _ (pages : ℕ) (distances : List ℕ) (threshold : ℕ) {held : List ℕ} {last : ℕ} (is : get_or held 0 0 ≡ last) where
  pub far_leaves : {p left : ℕ} → Walked (is_far pages distances threshold last) held p left → 0 < left
      → is_far pages distances threshold last p ≡ true → p ≡ leaving pages distances threshold held
  unfolding leaving
  far_leaves {p} {left} w more so =
      rw is (page_left w more ∙
      sym (last_at (is_far pages distances threshold last) held (least_recent (λ q. true) held 0) (left - 1)
      (omega (arith, w.inside)) (rw (← page_left w more) so) (λ j h. w.near j (omega arith))))

  pub oldest_leaves : {p left : ℕ} → Walked (is_far pages distances threshold last) held p left → left ≤ 0
      → 0 < length held → get_or (255 ∷ held) (length held) 0 ≡ leaving pages distances threshold held
  unfolding leaving
  oldest_leaves w none some =
      rw (
        is,
        none_at (is_far pages distances threshold last) held (least_recent (λ q. true) held 0)
            (λ j h. w.near j (omega arith) h),
      )
      (last_left held (length held) some ∙
      sym (last_at (λ q. true) held 0 (length held - 1) (omega arith) refl (λ j h k. absurd (omega arith))))
