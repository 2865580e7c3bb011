-- The least of keys: of two lists one after the other, of one key more, of keys of which one changes; how it bounds
-- each key, and that it is one of them.
use Rattle.common.proofs.Ground.{◌≡◌, refl, ◌∙◌, Bool, true, false, List, [], ◌∷◌, ◌++◌, ℕ, zero, suc, ◌+◌, ◌-◌, ◌<◌}
use Rattle.common.proofs.Ground.{◌≤◌, min, arith, add-one, length, get_or, set, take, drop, length-take, length-drop}
use Rattle.common.proofs.Ground.{take-suc, take-add, get_or-take, get_or-drop, drop-set-lt, drop-set-add}
use Rattle.common.proofs.Ground.{take-set-le, take-set-lt, ltb, ltb-true, ltb-false}
use Rattle.common.specs.Numbers.{nobody}
use Rattle.queue.specs.Keys.{least_in, least_from}

-- No key is above nobody's.
pub least_most : (keys : List ℕ) → least_in keys ≤ nobody
unfolding least_in
least_most [] = omega arith
least_most (x ∷ keys) = omega (arith, least_most keys)

-- The least of two lists is the lesser of their leasts.
pub least-append : (l m : List ℕ) → least_in (l ++ m) ≡ min (least_in l) (least_in m)
unfolding least_in
least-append [] m = omega (arith, least_most m)
least-append (x ∷ l) m = omega (arith, least-append l m)

-- The least is at most each key.
pub least_at_most : (keys : List ℕ) (i : ℕ) → i < length keys → least_in keys ≤ get_or keys i 0
unfolding least_in
least_at_most [] i h = absurd (omega arith)
least_at_most (x ∷ keys) zero h = omega arith
least_at_most (x ∷ keys) (suc i) h = omega (arith, least_at_most keys i (omega arith))

-- One key becomes lesser, or stays: so does the least.
pub least_lower : (keys : List ℕ) (i key : ℕ) → i < length keys →
    least_in (set keys i (min (get_or keys i 0) key)) ≡ min (least_in keys) key
unfolding least_in
least_lower [] i key h = absurd (omega arith)
least_lower (x ∷ keys) zero key h = omega arith
least_lower (x ∷ keys) (suc i) key h = omega (arith, least_lower keys i key (omega arith))

-- No keys, one key more, and more keys, from `lo` on.
pub least_none : (keys : List ℕ) (lo : ℕ) → least_from keys lo 0 ≡ nobody
unfolding least_in
least_none keys lo = refl

pub least_more : (keys : List ℕ) (lo k : ℕ) → lo + k < length keys →
    least_from keys lo (k + 1) ≡ min (least_from keys lo k) (get_or keys (lo + k) 0)
unfolding least_in
least_more keys lo k h =
    let inside : k < length (drop lo keys) = omega (arith, length-drop lo keys) in
    let one : least_in (get_or keys (lo + k) 0 ∷ []) ≡ min (get_or keys (lo + k) 0) nobody = refl in
    rw (add-one k, take-suc (drop lo keys) k 0 inside, get_or-drop lo keys k 0)
    (omega (
      arith,
      one,
      least_most (take k (drop lo keys)),
      least-append (take k (drop lo keys)) (get_or keys (lo + k) 0 ∷ []),
    ))

pub least_onward : (keys : List ℕ) (n m : ℕ) →
    least_in (take (n + m) keys) ≡ min (least_in (take n keys)) (least_from keys n m)
least_onward keys n m = rw (take-add n m keys) (least-append (take n keys) (take m (drop n keys)))

-- A key before or behind some keys does not change their least.
pub least_before : (keys : List ℕ) (i x lo k : ℕ) → i < lo → least_from (set keys i x) lo k ≡ least_from keys lo k
least_before keys i x lo k h = rw (drop-set-lt lo keys i x h)

pub least_behind : (keys : List ℕ) (i x lo k : ℕ) → lo + k ≤ i → least_from (set keys i x) lo k ≡ least_from keys lo k
least_behind keys i x lo k h =
    let e : i ≡ lo + (i - lo) = omega arith in
    rw (e, drop-set-add lo keys (i - lo) x, take-set-le k (drop lo keys) (i - lo) x (omega arith))

-- One of some keys is lowered: so is their least.
pub least_lowered : (keys : List ℕ) (i key lo k : ℕ) → lo ≤ i → i < lo + k → lo + k ≤ length keys →
    least_from (set keys i (min (get_or keys i 0) key)) lo k ≡ min (least_from keys lo k) key
least_lowered keys i key lo k a b c = go (i - lo) (omega arith) (omega arith)
  where
    go : (j : ℕ) → i ≡ lo + j → j < k →
        least_from (set keys i (min (get_or keys i 0) key)) lo k ≡ min (least_from keys lo k) key
    go j e h =
        let part = take k (drop lo keys) in
        let here : get_or part j 0 ≡ get_or keys (lo + j) 0 = get_or-take k (drop lo keys) j 0 h ∙ get_or-drop lo keys j 0 in
        let inside : j < length part = omega (arith, length-take k (drop lo keys), length-drop lo keys) in
        let lower = rw here at (least_lower part j key inside) in
        rw (
          e,
          drop-set-add lo keys j (min (get_or keys (lo + j) 0) key),
          take-set-lt k (drop lo keys) j (min (get_or keys (lo + j) 0) key) h,
        ) lower

-- Where it is not nobody's, the least is one of the keys.
pub record Found (keys : List ℕ) : Type 0 where
  pub place : ℕ
  pub inside : place < length keys
  pub held : get_or keys place 0 ≡ least_in keys

pub least-found : (keys : List ℕ) → least_in keys < nobody → Found keys
unfolding least_in
least-found [] h = absurd (omega arith)
least-found (x ∷ keys) h = go (ltb (least_in keys) x) refl (least-found keys)
  where
    go : (later : Bool) → ltb (least_in keys) x ≡ later → (least_in keys < nobody → Found keys) → Found (x ∷ keys)
    go true e more =
        let less = ltb-true (least_in keys) x e in
        let rest = more (omega arith) in
        record { place = suc rest.place; inside = omega (arith, rest.inside); held = omega (arith, rest.held) }
    go false e more = record { place = 0; inside = omega arith; held = omega (arith, ltb-false (least_in keys) x e) }
