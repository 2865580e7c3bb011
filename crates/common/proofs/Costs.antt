-- Costs are ordered as times and moves are, and so are the two numbers of any costs.
use Rattle.common.proofs.Ground.{⊎_elim, ℕ, ◌≤◌, arith}
use Rattle.common.proofs.Cases.{le-or-lt}
use Rattle.common.specs.Costs.{NoMore, time_in, moves_in, CostsOrder}

pub costs_order : CostsOrder
costs_order = record {
  numbers = λ t m l. (omega arith, omega arith);
  order = λ t m u n a b p. ⊎_elim (λ le. omega (arith, p.0, p.1 (omega (arith, p.0)))) (λ lt. omega arith)
      (le-or-lt u t);
  ordered = λ t m u n a b le. (omega arith, λ e. omega arith);
  onward = λ t m w. (omega arith, λ p. omega (arith, p.0, p.1 (omega (arith, p.0))));
}

pub numbers_order : {c d : ℕ} → c ≤ d → NoMore (time_in c) (moves_in c) (time_in d) (moves_in d)
numbers_order le = (omega arith, λ e. omega arith)
