-- Which page leaves: one that is held; if none is far the last, so that the others stay as they are; and if it is in a
-- part of the pages that begins alike, the one that leaves the part too.
use Rattle.common.proofs.Ground.{◌≡◌, refl, ap, sym, ◌∙◌, Bool, true, false, ◌⊎◌, inl, inr, ⊎_elim, List, [], ◌∷◌}
use Rattle.common.proofs.Ground.{Memᴰ, Memᴰ-cases_cons, Memᴰ-head, Memᴰ-tail, Memᴰ-not_nil}
use Rattle.common.proofs.Ground.{Sublistᴰ, Sublistᴰ-slnil, Sublistᴰ-cons, Sublistᴰ-cons_cons, ℕ, suc, ◌≤◌, arith}
use Rattle.common.proofs.Ground.{length, get_or, take}
use Rattle.common.specs.Pick.{pick}
use Rattle.paging.specs.Store.{without, least_recent, is_far, leaving}
use Rattle.paging.proofs.Held.{Distinct, member_held, part_member, without_first, without_later, without-length}

-- Where none passes a test, the least recently used of those that do is the other number.
pub none_passes : (test : ℕ → Bool) (held : List ℕ) (other : ℕ) → ((p : ℕ) → Memᴰ p held → test p ≡ false)
    → least_recent test held other ≡ other
unfolding least_recent
none_passes test [] other fails = refl
none_passes test (p ∷ held) other fails =
    rw (fails p (Memᴰ-head refl)) (none_passes test held other (λ q m. fails q (Memᴰ-tail m)))

-- Otherwise it is one of the pages, and passes.
none_or_found : (test : ℕ → Bool) (held : List ℕ) (other : ℕ)
    → ((p : ℕ) → Memᴰ p held → test p ≡ false)
    ⊎ Memᴰ (least_recent test held other) held × (test (least_recent test held other) ≡ true)
unfolding least_recent
none_or_found test [] other = inl (λ p m. absurd (Memᴰ-not_nil m))
none_or_found test (p ∷ held) other = ⊎_elim
    (λ none. by_test (test p) refl none (none_passes test held (pick (test p) p other) none))
    (λ found. inr (Memᴰ-tail found.0, found.1))
    (none_or_found test held (pick (test p) p other))
  where
    by_test : {x : ℕ} (t : Bool) → test p ≡ t → ((q : ℕ) → Memᴰ q held → test q ≡ false) → x ≡ pick t p other
        → ((q : ℕ) → Memᴰ q (p ∷ held) → test q ≡ false) ⊎ Memᴰ x (p ∷ held) × (test x ≡ true)
    by_test true passes none is = inr (Memᴰ-head is, ap test is ∙ passes)
    by_test false fails none is = inl (λ q m. ⊎_elim (λ e. ap test e ∙ fails) (none q) (Memᴰ-cases_cons m))

pub least_recent_member : (test : ℕ → Bool) (held : List ℕ) (other : ℕ)
    → Memᴰ (least_recent test held other) (other ∷ held)
least_recent_member test held other = ⊎_elim
    (λ none. Memᴰ-head (none_passes test held other none))
    (λ found. Memᴰ-tail found.0)
    (none_or_found test held other)

-- If it passes and stands in a part of the pages, it is the one of the part too.
least_in_part : (test : ℕ → Bool) {small large : List ℕ} → Sublistᴰ small large → Distinct large → (other another : ℕ)
    → test (least_recent test large other) ≡ true → Memᴰ (least_recent test large other) small
    → least_recent test small another ≡ least_recent test large other
unfolding least_recent
least_in_part test Sublistᴰ-slnil d other another passes m = absurd (Memᴰ-not_nil m)
least_in_part test (Sublistᴰ-cons {a = p} part) d other another passes m =
    least_in_part test part d.1 (pick (test p) p other) another passes m
least_in_part test (Sublistᴰ-cons_cons {a = p} {b = q} {l₁ = small} {l₂ = large} e part) d other another passes m =
    ⊎_elim
    (λ here. ⊎_elim
    (λ none.
    none_passes test small (pick (test p) p another) (λ x k. none x (part_member part k)) ∙
    ap (λ t. pick t p another) (ap test (sym here) ∙ passes) ∙ sym here)
    (λ found. absurd (d.0 (rw (here ∙ e) at found.0)))
    (none_or_found test large (pick (test q) q other)))
    (λ later. least_in_part test part d.1 (pick (test q) q other) (pick (test p) p another) passes later)
    (Memᴰ-cases_cons m)

-- The last of p and the pages behind it. Without it, pages that differ are one fewer and otherwise the same.
abbrev pub last_of : ℕ → List ℕ → ℕ
last_of p held = least_recent (λ q. true) held p

pub without_last : (p : ℕ) (held : List ℕ) → Distinct (p ∷ held)
    → without (last_of p held) (p ∷ held) ≡ take (length held) (p ∷ held)
unfolding least_recent
without_last p [] distinct = without_first p p [] refl
without_last p (q ∷ held) distinct =
    without_later (last_of q held) p (q ∷ held)
    (λ same. distinct.0 (rw same at (least_recent_member (λ x. true) held q))) ∙
    ap (λ l. p ∷ l) (without_last q held distinct.1)

module _ (pages : ℕ) (distances : List ℕ) (threshold : ℕ) where
  -- The page that leaves is one of those held, which are then one fewer.
  pub leaving_member : (p : ℕ) (held : List ℕ) → Memᴰ (leaving pages distances threshold (p ∷ held)) (p ∷ held)
  unfolding leaving least_recent
  leaving_member p held = ⊎_elim
      (λ none_far. rw none_far (least_recent_member (λ q. true) held p))
      (λ far. far)
      (Memᴰ-cases_cons (least_recent_member (is_far pages distances threshold p) (p ∷ held) (last_of p held)))

  pub leaving-length : (held : List ℕ) → 1 ≤ length held
      → suc (length (without (leaving pages distances threshold held) held)) ≡ length held
  leaving-length [] some = absurd (omega arith)
  leaving-length (p ∷ held) some =
      let left = leaving pages distances threshold (p ∷ held) in
      without-length left (p ∷ held) (member_held left (p ∷ held) (leaving_member p held))

  -- Where none is far it is the last.
  pub leaving_last : ((last p : ℕ) → is_far pages distances threshold last p ≡ false) → (p : ℕ) (held : List ℕ)
      → leaving pages distances threshold (p ∷ held) ≡ last_of p held
  unfolding leaving least_recent
  leaving_last near p held =
      none_passes (is_far pages distances threshold p) (p ∷ held) (last_of p held) (λ q member. near p q)

  -- If it stands in a part of the pages that begins alike, it is the one that leaves the part too.
  pub leaving_in_part : {small large : List ℕ} → Sublistᴰ small large → Distinct large
      → get_or small 0 0 ≡ get_or large 0 0 → Memᴰ (leaving pages distances threshold large) small
      → leaving pages distances threshold small ≡ leaving pages distances threshold large
  unfolding leaving
  leaving_in_part {small} {large} part distinct first member =
      let far = is_far pages distances threshold (get_or large 0 0) in
      rw first (⊎_elim
      (λ near.
      let last_leaves = none_passes far large (least_recent (λ p. true) large 0) near in
      none_passes far small (least_recent (λ p. true) small 0) (λ p m. near p (part_member part m)) ∙
      least_in_part (λ p. true) part distinct 0 0 refl (rw last_leaves at member) ∙ sym last_leaves)
      (λ found. least_in_part far part distinct _ _ found.1 member)
      (none_or_found far large (least_recent (λ p. true) large 0)))
