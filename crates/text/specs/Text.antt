-- Text in ASCII and numbers in decimal, as lists of bytes.
use Rattle.std.specs.Prelude.{List, [], ◌∷◌, ◌++◌, ℕ, zero, suc, ◌+◌, ◌/◌, ◌%◌, ltb}
use Prim.Native.Char.{code}
use Prim.Native.String.{String}
use Prim.Native.String.{[] as ended, ◌∷◌ as ◌then◌}
use Rattle.common.specs.Pick.{pick}

-- The bytes of a text in ASCII.
unfoldable pub ascii : String → List ℕ
ascii ended = []
ascii (c then text) = code c ∷ ascii text

-- "in decimal": the digits of n / 10, none where n is below ten, and then the last digit. So many digits at most.
unfoldable pub digits : ℕ → ℕ → List ℕ
digits zero n = []
digits (suc most) n = let higher = digits most (n / 10) in pick (ltb n 10) [] higher ++ (48 + n % 10) ∷ []

-- A number of 64 bits has twenty digits at most.
abbrev pub decimal : ℕ → List ℕ
decimal n = digits 20 n

-- A word or two, and a number.
abbrev pub named : String → ℕ → List ℕ
named text n = ascii text ++ decimal n
