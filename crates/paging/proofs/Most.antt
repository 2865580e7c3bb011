-- A list never takes more reads than it has entries.
use Rattle.common.proofs.Ground.{Bool, true, false, not, List, [], ◌∷◌, ℕ, ◌≤◌, arith, length}
use Rattle.net.specs.Net.{one}
use Rattle.paging.specs.Store.{holds, after_reference, reads_from}

pub one_most : (b : Bool) → one b ≤ 1
one_most true = omega arith
one_most false = omega arith

pub reads_most : (pages : ℕ) (distances : List ℕ) (threshold frames : ℕ) (held list : List ℕ)
    → reads_from pages distances threshold frames held list ≤ length list
unfolding reads_from
reads_most pages distances threshold frames held [] = omega arith
reads_most pages distances threshold frames held (p ∷ list) =
    omega (
      arith,
      one_most (not (holds p held)),
      reads_most pages distances threshold frames (after_reference pages distances threshold frames p held) list,
    )
