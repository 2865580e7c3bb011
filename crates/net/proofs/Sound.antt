-- What the laws ask of a net. Maps meet it (`map_sound` in Laws).
use Rattle.common.proofs.Ground.{◌≡◌, ℕ, ◌*◌, ◌≤◌, ◌<◌, arith}
use Rattle.common.specs.Numbers.{no_time}
use Rattle.common.specs.Costs.{cost, no_cost}
use Rattle.net.specs.Net.{Page, Frame, Goes}

-- Every move leads to a station, the source is one, and no walk that repeats no station takes as long as the time that
-- stands for none, or has as many moves. A move may take no time: it costs 1 at least, being one.
pub record Sound (F : Frame) (page : ℕ → Page) (source : ℕ) : Type 0 where
  pub longest : ℕ
  pub moves : (u v w : ℕ) → Goes F page u v w → (cost w 1 ≤ longest) × (v < F.size)
  pub source_in : source < F.size
  pub none : F.none ≡ no_cost
  pub few : F.size ≤ 65535
  pub room : F.size * longest < cost no_time 0

pub below_none : {F : Frame} {page : ℕ → Page} {source : ℕ} (ok : Sound F page source)
    → F.size * ok.longest < F.none
below_none ok = omega (arith, ok.none, ok.room)
