-- Behind a move: one entry further if it is open, and none if it is closed.
use Rattle.common.proofs.Ground.{Bool, true, false, ℕ, ◌+◌, ◌≤◌, arith}
use Rattle.common.specs.Pick.{pick}

pub next_bounds : (k : ℕ) (test : Bool) → (k ≤ pick test (k + 1) k) × (pick test (k + 1) k ≤ k + 1)
next_bounds k true = omega arith
next_bounds k false = omega arith
