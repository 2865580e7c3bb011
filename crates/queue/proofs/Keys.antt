-- A packed number has its parts by division, and compares by cost, then by station.
use Rattle.common.proofs.Ground.{◌≡◌, ◌⊎◌, inl, inr, ⊎_elim, ℕ, ◌/◌, ◌<◌, arith}
use Rattle.common.proofs.Cases.{le-or-lt}
use Rattle.queue.specs.Keys.{packed}

pub packed-cost : (cost station : ℕ) → station < 2048 → packed cost station / 2048 ≡ cost
packed-cost cost station h = omega arith

-- A packed number is below another only if its cost is less, or equal and its station lower.
pub packed_less : (cost station cost' station' : ℕ) → station < 2048 → station' < 2048
    → packed cost station < packed cost' station' → (cost < cost') ⊎ ((cost ≡ cost') × (station < station'))
packed_less cost station cost' station' h h' l =
    ⊎_elim (λ le. inr (omega arith, omega arith)) (λ lt. inl lt) (le-or-lt cost' cost)
