-- Numbers in a list of bytes. What lies past the end reads as 0.
use Rattle.std.specs.Prelude.{Bool, true, false, List, [], ◌∷◌, ℕ, ◌+◌, ◌*◌, ◌<◌, get_or, take, drop, eqb}
use Rattle.common.specs.Pick.{pick}

-- The u16 at an offset, little-endian.
abbrev pub word : List ℕ → ℕ → ℕ
word s at = get_or s at 0 + 256 * get_or s (at + 1) 0

-- The part of `count` bytes from an offset on, as far as the bytes reach.
abbrev pub part : List ℕ → ℕ → ℕ → List ℕ
part s from count = take count (drop from s)

unfoldable pub all_zero : List ℕ → Bool
all_zero [] = true
all_zero (b ∷ bs) = let rest = all_zero bs in pick (eqb b 0) rest false

-- Each number is that of a byte.
abbrev pub Bytes : List ℕ → Type 0
Bytes s = (i : ℕ) → get_or s i 0 < 256
