-- The bytes that the pages need, summed station by station. For the code: nothing that is promised speaks of them.
use Rattle.std.specs.Prelude.{List, [], ◌∷◌, ℕ, suc, ◌+◌, ◌-◌, ◌^◌, min, take, get_or, set, replicate, ltb, Option}
use Rattle.std.specs.Prelude.{position}
use Rattle.writing.specs.Taking.{bytes_of}

-- The pages' sums with what station u needs, its `01` and its moves, added to that of its page.
abbrev pub with_station : List ℕ → ℕ → ℕ → List ℕ → List ℕ
with_station bytes u p sums = set sums p (min (get_or sums p 0 + (3 + bytes_of bytes u)) (2 ^ 64 - 1))

-- The same for each entry of a directory, the first of which is that of station u.
unfoldable pub sums_from : List ℕ → ℕ → List ℕ → List ℕ → List ℕ
sums_from bytes u [] sums = sums
sums_from bytes u (p ∷ ps) sums = sums_from bytes (suc u) ps (with_station bytes u p sums)

-- The sums of all pages that a directory can name. Each begins with the page's `00`.
abbrev pub sums_of : List ℕ → List ℕ → List ℕ
sums_of bytes directory = sums_from bytes 0 directory (replicate 256 1)

-- The lowest of so many pages whose sum is over 256, if there is one.
abbrev pub first_over : List ℕ → ℕ → Option ℕ
first_over sums pages = position (ltb 256) (take pages sums)
