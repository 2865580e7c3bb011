-- The pages' sums: one step of each loop over them, and that they tell which page is full. By induction over the
-- directory: a sum and what its page needs are alike as far as 512, and so past 256 or not alike.
use Rattle.common.proofs.Ground.{◌≡◌, refl, ap, ◌∙◌, dite, List, [], ◌∷◌, map, ℕ, zero, suc, ◌+◌, ◌-◌, ◌≤◌, ◌<◌, min}
use Rattle.common.proofs.Ground.{arith, ℕ_discrete, dec_lt, add-one, length, length-set, length-replicate, get_or}
use Rattle.common.proofs.Ground.{get_or-replicate, get_or-set_same, get_or-set_other, replicate, drop, drop-cons}
use Rattle.common.proofs.Ground.{drop_of_length-le, eq-eqb, ne_eqb, lt-ltb, le-ltb, ltb}
use Rattle.common.proofs.Ground.{Bool, true, false, take, get_or-take, length-take-le, add-zero, zero-add, sym}
use Rattle.std.specs.Prelude.{◌^◌, cond, Some, None}
use Rattle.std.specs.List.{position_or_len}
use Rattle.common.specs.Pick.{pick}
use Rattle.page.specs.Good.{stations_from, stations_on, spell_stations}
use Rattle.move_record.specs.declared.MoveRecord.{MoveRecord}
use Rattle.roundtrip.specs.Written.{leaving, content_for, need_of, first_full}
use Rattle.roundtrip.proofs.Few.{bytes_for, bytes_first}
use Rattle.writing.specs.Taking.{bytes_of}
use Rattle.writing.specs.Sums.{with_station, sums_from, sums_of, first_over}

module _ (bytes directory sums : List ℕ) (u : ℕ) where
  pub sums_turn : u < length directory
      → sums_from bytes u (drop u directory) sums
      ≡ sums_from bytes (u + 1) (drop (u + 1) directory) (with_station bytes u (get_or directory u 0) sums)
  unfolding sums_from
  sums_turn h = simp (drop-cons directory u 0 h, add-one)

  pub sums_end : length directory ≤ u → sums_from bytes u (drop u directory) sums ≡ sums
  unfolding sums_from
  sums_end h = rw (drop_of_length-le directory h)

-- Where the bytes of each station are known as far as 512, so is the sum of each page.
module _ (bytes : List ℕ) (records : List MoveRecord)
    (measured : (u : ℕ) → u < 2048 → min 512 (bytes_of bytes u) ≡ min 512 (bytes_for records u)) where
  abbrev stations_bytes : List ℕ → ℕ
  stations_bytes us = length (spell_stations (map (leaving records) us) [])

  sums_say : (directory : List ℕ) (u p : ℕ) (sums : List ℕ) → length sums ≡ 256 → u + length directory ≤ 2048 → p < 256
      → min 512 (get_or (sums_from bytes u directory sums) p 0)
      ≡ min 512 (get_or sums p 0 + stations_bytes (stations_from p u directory))
  unfolding sums_from stations_from spell_stations
  sums_say [] u p sums size most page = omega arith
  sums_say (d ∷ ds) u p sums size most page =
      let sum = min (get_or sums d 0 + (3 + bytes_of bytes u)) (2 ^ 64 - 1) in
      let us = stations_from p (suc u) ds in
      sums_say ds (suc u) p (with_station bytes u d sums) (length-set sums d sum ∙ size) (omega arith) page ∙
      dite (ℕ_discrete d p)
      (λ here.
      rw (eq-eqb d p here, here, get_or-set_same sums p _ 0 (omega arith))
      (omega (
        arith,
        measured u (omega arith),
        bytes_first records u us,
      )))
      (λ other.
      rw (ne_eqb d p other, get_or-set_other sums d p sum 0 (λ e. other (omega arith))))

  sum_needs : (directory : List ℕ) (p : ℕ) → length directory ≤ 2048 → p < 256
      → min 512 (get_or (sums_of bytes directory) p 0) ≡ min 512 (need_of directory records p)
  unfolding need_of content_for
  sum_needs directory p most page =
      sums_say directory 0 p (replicate 256 1) (length-replicate {A = ℕ} 256 1) (omega arith) page ∙
      ap (λ n. min 512 (n + stations_bytes (stations_on directory p))) (get_or-replicate {A = ℕ} 256 p 1 0 page) ∙
      omega arith

  -- A sum is over 256 where the page needs more.
  same_over : (directory : List ℕ) (p : ℕ) → length directory ≤ 2048 → p < 256
      → ltb 256 (get_or (sums_of bytes directory) p 0) ≡ ltb 256 (need_of directory records p)
  same_over directory p most page =
      let sum = get_or (sums_of bytes directory) p 0 in
      let need = need_of directory records p in
      let same : min 512 sum ≡ min 512 need = sum_needs directory p most page in
      dite (dec_lt 256 sum)
      (λ over. rw (lt-ltb 256 sum over, lt-ltb 256 need (omega arith)))
      (λ under. rw (le-ltb 256 sum (omega arith), le-ltb 256 need (omega arith)))

  -- So the first sum over 256 is that of the lowest page that needs more.
  first_place : (directory sums : List ℕ) (count p : ℕ) → length sums ≡ count
      → ((k : ℕ) → k < count → ltb 256 (get_or sums k 0) ≡ ltb 256 (need_of directory records (p + k)))
      → p + position_or_len (ltb 256) sums ≡ first_full directory records count p
  unfolding first_full
  first_place directory [] zero p long same = omega arith
  first_place directory [] (suc count) p long same = absurd (omega arith)
  first_place directory (x ∷ xs) zero p long same = absurd (omega arith)
  first_place directory (x ∷ xs) (suc count) p long same =
      let here : ltb 256 x ≡ ltb 256 (need_of directory records p) =
      same 0 (omega arith) ∙ ap (λ n. ltb 256 (need_of directory records n)) (add-zero p) in
      let rest = first_place directory xs count (suc p) (omega arith)
      (λ k h. let e : p + suc k ≡ suc p + k = omega arith in
      same (suc k) (omega arith) ∙ ap (λ n. ltb 256 (need_of directory records n)) e) in
      by_test (ltb 256 x) refl here rest
    where
      by_test : (b : Bool) → ltb 256 x ≡ b → ltb 256 x ≡ ltb 256 (need_of directory records p)
          → suc p + position_or_len (ltb 256) xs ≡ first_full directory records count (suc p)
          → p + position_or_len (ltb 256) (x ∷ xs)
          ≡ pick (ltb 256 (need_of directory records p)) p (first_full directory records count (suc p))
      by_test true e here rest = rw (← here, e) (omega arith)
      by_test false e here rest = rw (← here, e) (omega arith)

  sums_length : (directory : List ℕ) (u : ℕ) (sums : List ℕ)
      → length (sums_from bytes u directory sums) ≡ length sums
  unfolding sums_from
  sums_length [] u sums = refl
  sums_length (d ∷ ds) u sums = sums_length ds (suc u) (with_station bytes u d sums) ∙ length-set sums d _

  pub first_over_full : (directory : List ℕ) (pages : ℕ) → length directory ≤ 2048 → pages ≤ 256
      → let full = first_full directory records pages 0 in
      first_over (sums_of bytes directory) pages ≡ cond (ltb full pages) (Some full) None
  first_over_full directory pages most few =
      let sums = sums_of bytes directory in
      let size : length sums ≡ 256 = sums_length directory 0 (replicate 256 1) ∙ length-replicate {A = ℕ} 256 1 in
      let long : length (take pages sums) ≡ pages = length-take-le pages sums (omega arith) in
      let place = first_place directory (take pages sums) pages 0 long
      (λ k h.
      ap (ltb 256) (get_or-take pages sums k 0 h) ∙ same_over directory k most (omega arith) ∙
      ap (λ n. ltb 256 (need_of directory records n)) (sym (zero-add k))) in
      let first : position_or_len (ltb 256) (take pages sums) ≡ first_full directory records pages 0 =
      sym (zero-add _) ∙ place in
      rw (first, long)
