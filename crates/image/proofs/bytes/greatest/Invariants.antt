-- The loop's invariant: the greatest byte so far is one of the bytes, and none before the index is above it. What lies
-- past the end reads as 0, which the loop begins with.
use Rattle.common.proofs.Ground.{◌≡◌, ℕ, ◌≤◌, ◌<◌, get_or}
use Rattle.image.proofs.bytes.greatest.Given as goal

abbrev pub invariant-loop-b : goal.invariant-loop-b
invariant-loop-b l =
    ((at : ℕ) × (get_or l.s at 0 ≡ l.most)) × ((at : ℕ) → at < l.b-index → get_or l.s at 0 ≤ l.most)
