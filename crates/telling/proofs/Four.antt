-- The four numbers put into an answer one by one are the answer's new front; a shorter answer stays as it is.
use Rattle.common.proofs.Ground.{◌≡◌, refl, List, [], ◌∷◌, ℕ, ◌≤◌, ◌<◌, arith, length, set, drop, lt-ltb, le-ltb}
use Rattle.telling.specs.declared.Numbers.{Numbers}
use Rattle.telling.specs.Numbers.{told, told_by}

front : (l : List ℕ) (a b c d : ℕ) → 4 ≤ length l → set (set (set (set l 0 a) 1 b) 2 c) 3 d ≡ a ∷ b ∷ c ∷ d ∷ drop 4 l
front [] a b c d h = absurd (omega arith)
front (x ∷ []) a b c d h = absurd (omega arith)
front (x ∷ y ∷ []) a b c d h = absurd (omega arith)
front (x ∷ y ∷ z ∷ []) a b c d h = absurd (omega arith)
front (x ∷ y ∷ z ∷ w ∷ l) a b c d h = refl

module _ (n : Numbers) (answer : List ℕ) where
  pub put_short : length answer < 4 → told n.status answer ≡ told_by n answer
  put_short h = rw (lt-ltb (length answer) 4 h)

  pub put_four : 4 ≤ length answer
      → told n.status (set (set (set (set answer 0 n.count) 1 n.reached) 2 n.place) 3 n.offset)
      ≡ told_by n answer
  put_four h = rw (le-ltb (length answer) 4 h, front answer n.count n.reached n.place n.offset h)
