-- The scan of `least_key`: what it has found so far is the least of the first keys, which come in fours and then one by one.
use Rattle.common.proofs.Ground.{◌≡◌, ap, sym, ◌∙◌, List, ℕ, zero, suc, ◌+◌, ◌-◌, ◌*◌, ◌/◌, ◌<◌, ◌≤◌, min, arith}
use Rattle.common.proofs.Ground.{length, get_or, take, drop, get_or-take, get_or-drop, length-drop}
use Rattle.std.specs.Simd.{first_chunks}
use Rattle.common.specs.Numbers.{nobody}
use Rattle.queue.specs.Keys.{least_in}
use Rattle.queue.proofs.Least.{least_none, least_more}

pub record Scan (keys : List ℕ) (least n : ℕ) : Type 0 where
  pub within : n ≤ length keys
  pub found : least ≡ least_in (take n keys)

pub scan_start : (keys : List ℕ) → Scan keys nobody 0
scan_start keys = record { within = omega arith; found = sym (least_none keys 0) }

-- Four keys one after the other, or first among themselves.
turned : (l w x y z : ℕ) → min (min (min (min l w) x) y) z ≡ min l (min (min w x) (min y z))
turned l w x y z = group (min (min l w) x) y z ∙ ap (λ k. min k (min y z)) (group l w x) ∙ group l (min w x) (min y z)
  where
    group : (x y z : ℕ) → min (min x y) z ≡ min x (min y z)
    group x y z = omega arith

-- Key j of chunk i.
chunk_key : (k i j : ℕ) (xs none : List ℕ) → i < k → j < 4
    → get_or (get_or (first_chunks 4 k xs) i none) j 0 ≡ get_or xs (4 * i + j) 0
chunk_key zero i j xs none h l = absurd (omega arith)
chunk_key (suc k) zero j xs none h l = let e : 4 * 0 + j ≡ j = omega arith in rw e (get_or-take 4 xs j 0 l)
chunk_key (suc k) (suc i) j xs none h l =
    let e : 4 * suc i + j ≡ 4 + (4 * i + j) = omega arith in
    rw e (chunk_key k i j (drop 4 xs) none (omega arith) l ∙ get_or-drop 4 xs (4 * i + j) 0)

module _ (keys : List ℕ) where
  -- One key more.
  more : {least n : ℕ} → Scan keys least n → n < length keys → Scan keys (min least (get_or keys n 0)) (n + 1)
  more {least} {n} s h =
      let from_first : 0 + n ≡ n = omega arith in
      record { within = omega arith; found = rw s.found (sym (rw from_first at (least_more keys 0 n (omega arith)))) }

  -- The next of the rest.
  pub scan_one : {least i : ℕ} {rest : List ℕ} → rest ≡ drop (length keys / 4 * 4) keys → i < length rest
      → Scan keys least (length keys / 4 * 4 + i)
      → Scan keys (min least (get_or rest i 0)) (length keys / 4 * 4 + (i + 1))
  scan_one {least} {i} {rest} is h s =
      let begin = length keys / 4 * 4 in
      let short : i < length keys - begin = omega (arith, rw is at h, length-drop begin keys) in
      let next : begin + (i + 1) ≡ begin + i + 1 = omega arith in
      rw (is, get_or-drop begin keys i 0, next) (more s (omega arith))

  -- A turn: four keys more.
  pub scan_four : {least i : ℕ} {fours : List (List ℕ)} (none : List ℕ) → fours ≡ first_chunks 4 (length keys / 4) keys
      → i < length keys / 4 → Scan keys least (4 * i)
      → let four = get_or fours i none in
      Scan keys (min least (min (min (get_or four 0 0) (get_or four 1 0)) (min (get_or four 2 0) (get_or four 3 0))))
      (4 * (i + 1))
  scan_four {least} {i} {fours} none e h s =
      let room : 4 * i + 3 < length keys = omega arith in
      let key : (j : ℕ) → j < 4 → get_or (get_or fours i none) j 0 ≡ get_or keys (4 * i + j) 0 =
      λ j l. rw e (chunk_key (length keys / 4) i j keys none h l) in
      let zeroth : 4 * i + 0 ≡ 4 * i = omega arith in
      let two : 4 * i + 1 + 1 ≡ 4 * i + 2 = omega arith in
      let three : 4 * i + 2 + 1 ≡ 4 * i + 3 = omega arith in
      let four : 4 * i + 3 + 1 ≡ 4 * (i + 1) = omega arith in
      let half = rw two at (more (more s (omega arith)) (omega arith)) in
      let all = rw four at (more (rw three at (more half (omega arith))) (omega arith)) in
      rw (key 0 (omega arith), key 1 (omega arith), key 2 (omega arith), key 3 (omega arith), zeroth)
      (rw turned at all)
