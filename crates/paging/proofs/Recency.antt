-- With a threshold that no distance is above, a store is plain least recently used: no page is far, so that where all
-- frames hold pages the last one leaves, and what stays is the front.
use Rattle.common.proofs.Ground.{◌≡◌, refl, ap, sym, not, false, List, [], ◌∷◌, Memᴰ-head, Memᴰ-tail, ℕ, zero}
use Rattle.common.proofs.Ground.{suc, ◌+◌, ◌*◌, ◌≤◌, arith, length, get_or, take, take_all, ltb, le-ltb, ltb-true}
use Rattle.common.proofs.Ground.{ltb-false}
use Rattle.common.proofs.Cases.{by_pick}
use Rattle.net.specs.Net.{one}
use Rattle.paging.specs.Store.{holds, without, is_far, leaving, after_reference, reads_from, lru_reads_from}
use Rattle.paging.specs.Promises.{AtLeastEvery}
use Rattle.paging.proofs.Held.{Distinct, without_none, without-length}
use Rattle.paging.proofs.Leaving.{without_last, leaving_last}
use Rattle.paging.proofs.Room.{Fits, fits_after}

-- No distance that is looked up is above the threshold, not even one outside the table.
distance_at_most : (threshold : ℕ) (distances : List ℕ) → AtLeastEvery threshold distances → (k : ℕ)
    → get_or distances k 0 ≤ threshold
distance_at_most threshold [] every k = omega arith
distance_at_most threshold (d ∷ distances) every zero = every d (Memᴰ-head refl)
distance_at_most threshold (d ∷ distances) every (suc k) =
    distance_at_most threshold distances (λ x m. every x (Memᴰ-tail m)) k

module _ (pages : ℕ) (distances : List ℕ) (threshold : ℕ) (every : AtLeastEvery threshold distances) where
  none_far : (last p : ℕ) → is_far pages distances threshold last p ≡ false
  none_far last p = le-ltb threshold _ (distance_at_most threshold distances every (last * pages + p))

  -- Where all frames hold pages, all but the last stay.
  front_stays : (n : ℕ) (held : List ℕ) → Distinct held → length held ≡ suc n
      → without (leaving pages distances threshold held) held ≡ take n held
  front_stays n [] distinct full = absurd (omega arith)
  front_stays n (p ∷ held) distinct full =
      let others : length held ≡ n = omega arith in
      rw (leaving_last pages distances threshold none_far p held, ← others) (without_last p held distinct)

  -- After a reference the store holds what plain least recently used holds.
  after_plain_lem : (frames p : ℕ) (held : List ℕ) → 1 ≤ frames → Fits frames held
      → after_reference pages distances threshold frames p held ≡ take frames (p ∷ without p held)
  unfolding after_reference
  after_plain_lem zero p held some fits = absurd (omega arith)
  after_plain_lem (suc n) p held some fits = ap (λ l. p ∷ l)
      (by_pick (λ l. l ≡ take n (without p held)) (holds p held)
      (λ hit. sym (take_all n (without p held) (omega (arith, without-length p held hit))))
      (λ miss. rw (without_none p held miss)
      (by_pick (λ l. l ≡ take n held) (ltb (length held) (suc n))
      (λ free. sym (take_all n held (omega (arith, ltb-true (length held) (suc n) free))))
      (λ full. front_stays n held fits.distinct (omega (arith, ltb-false (length held) (suc n) full))))))

  plain_from : (frames : ℕ) (held list : List ℕ) → 1 ≤ frames → Fits frames held
      → reads_from pages distances threshold frames held list ≡ lru_reads_from frames held list
  unfolding reads_from lru_reads_from
  plain_from frames held [] some fits = refl
  plain_from frames held (p ∷ list) some fits =
      rw (← after_plain_lem frames p held some fits) (ap (λ n. one (not (holds p held)) + n)
      (plain_from frames (after_reference pages distances threshold frames p held) list some
      (fits_after pages distances threshold frames held p some fits)))

  -- So from an empty store both read equally often.
  pub plain_reads : (frames : ℕ) (list : List ℕ) → 1 ≤ frames
      → reads_from pages distances threshold frames [] list ≡ lru_reads_from frames [] list
  plain_reads frames list some = plain_from frames [] list some (record { distinct = tt; room = omega arith })
