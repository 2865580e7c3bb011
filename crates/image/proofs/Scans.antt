-- One step of each scan over bytes: whether all is zero, and the first byte not below a limit. Each definition goes by
-- the list's front, so that a step is one `drop-cons`.
use Rattle.common.proofs.Ground.{◌≡◌, refl, sym, subst, Bool, false, dite, List, [], ◌∷◌, ℕ, suc, ◌+◌, ◌≤◌, ◌<◌, arith}
use Rattle.common.proofs.Ground.{ℕ_discrete, add-one}
use Rattle.common.proofs.Ground.{length, get_or, drop, drop_of_length-le, drop-cons, eqb}
use Rattle.common.proofs.Ground.{eq-eqb, ne_eqb, lt-ltb, le-ltb}
use Rattle.common.proofs.Ground.{lt-leb, le-leb, ltb, leb, dec_lt}
use Rattle.std.proofs.Common.{cond}
use Rattle.std.specs.Prelude.{unwrap_or, Some, None}
use Rattle.std.specs.List.{position}
use Rattle.std.proofs.lemmas.List.Recursion.{is_position_or_len}
use Rattle.common.proofs.Cases.{by_pick}
use Rattle.common.specs.Pick.{pick}
use Rattle.image.specs.Bytes.{all_zero}
use Rattle.image.specs.Image.{first_not_below}

-- Whether a sum of bytes is 0 and all bytes from i on are.
abbrev pub zero_with : List ℕ → ℕ → ℕ → Bool
zero_with s sum i = pick (eqb sum 0) (all_zero (drop i s)) false

module _ (s : List ℕ) (sum i : ℕ) where
  -- the byte at i added to the sum
  pub zero_added : i < length s → zero_with s (sum + get_or s i 0) (i + 1) ≡ zero_with s sum i
  unfolding all_zero
  zero_added h =
      dite (ℕ_discrete sum 0)
      (λ none.
      let e : sum + get_or s i 0 ≡ get_or s i 0 = omega arith in
      simp (drop-cons s i 0 h, eq-eqb sum 0 none, e, add-one))
      (λ some. simp (ne_eqb sum 0 some, ne_eqb (sum + get_or s i 0) 0 (omega arith)))

  pub zero_end : length s ≤ i → zero_with s sum i ≡ eqb sum 0
  unfolding all_zero
  zero_end h = rw (drop_of_length-le s h) (by_pick (λ b. b ≡ eqb sum 0) (eqb sum 0) sym sym)

-- The first station that is not below a limit, by its place: the first entry that passes the test, or the end.
not_below_most : (limit : ℕ) (directory : List ℕ) → first_not_below limit directory ≤ length directory
unfolding first_not_below
not_below_most limit [] = omega arith
not_below_most limit (d ∷ ds) =
    by_pick (λ first. first ≤ suc (length ds)) (ltb d limit)
    (λ below. omega (arith, not_below_most limit ds))
    (λ found. omega arith)

not_below_step : (limit d : ℕ) (ds : List ℕ)
    → first_not_below limit (d ∷ ds) ≡ cond (leb limit d) 0 (1 + first_not_below limit ds)
unfolding first_not_below
not_below_step limit d ds =
    dite (dec_lt d limit)
    (λ below. simp (lt-ltb _ _ below, lt-leb _ _ below) (omega arith))
    (λ found. let h : limit ≤ d = omega arith in simp (le-ltb _ _ h, le-leb _ _ h))

pub first_by_position : (limit : ℕ) (directory : List ℕ)
    → unwrap_or (position (leb limit) directory) (length directory) ≡ first_not_below limit directory
unfolding first_not_below
first_by_position limit directory =
    let n = length directory in
    let first = first_not_below limit directory in
    let is = is_position_or_len (first_not_below limit) (leb limit) refl (not_below_step limit) directory in
    let Found : ℕ → Type 0 = λ place. unwrap_or (cond (ltb place n) (Some place) None) n ≡ first in
    let most = not_below_most limit directory in
    subst Found is
    (dite (dec_lt first n)
    (λ inside. simp (lt-ltb first n inside))
    (λ past. let h : n ≤ first = omega arith in simp (le-ltb first n h) (omega arith)))

-- The greatest byte is below the limit: there is nothing to be found.
pub all-below : (directory : List ℕ) (limit most : ℕ) → most < limit → ((v : ℕ) → get_or directory v 0 ≤ most)
    → first_not_below limit directory ≡ length directory
unfolding first_not_below
all-below [] limit most h above = refl
all-below (d ∷ ds) limit most h above =
    simp (lt-ltb d limit (omega (arith, above 0)), all-below ds limit most h (λ v. above (suc v)))
