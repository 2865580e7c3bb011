-- The loop keeps `Hand` (specs/Hand.antt), for whichever search has the page in hand: the memory stands for a state in
-- the midst of the page's turns, and `least` is the page's least key. Each round is one turn more; at the end the leaf
-- gets the least key, which is the state after one reference more (proofs/Turning.antt).
use Rattle.common.proofs.Ground.{ℕ, ◌-◌, ◌≤◌, length}
use Rattle.work.specs.Board.{Serving}
use Rattle.work.specs.Hand.{Hand}
use Rattle.work.proofs.work_through.Given as goal

abbrev pub invariant-loop : goal.invariant-loop
invariant-loop l =
    ((q : Serving) (k : ℕ) → Hand q k l.p l.places l.layout l.turns l.key l.initial.memory
    → Hand q k l.p l.places l.layout (l.turns - l.counter) l.least l.memory)
    × ((l.lo ≤ l.hi) × (l.hi ≤ length l.memory.waiting))
