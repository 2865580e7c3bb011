-- The greatest time that a search can give: that of 2,047 moves, as a way repeats no station, each of 65,535.
use Rattle.common.proofs.Ground.{List, ℕ, ◌*◌, ◌≤◌, ◌<◌, arith, get_or}
use Rattle.common.specs.Numbers.{no_time}
use Rattle.net.specs.Demands.{Spells, at_source, step, LeastTimes}
use Rattle.image.specs.Bytes.{Bytes}
use Rattle.map.proofs.Soundness.{goes_within}
use Rattle.reply.specs.Reply.{Query, frame_of, pages_of}

-- Each move takes 65,535 at most, and so many moves at most so many times that.
module _ (q : Query) (bytes : Bytes q.image) where
  spelled_within : {preds : List ℕ} {v t m : ℕ} → Spells (frame_of q) (pages_of q) q.source preds v t m
      → t ≤ m * 65535
  spelled_within (at_source e) = omega arith
  spelled_within (step {u} v w e goes before) =
      omega (arith, spelled_within before, (goes_within q.strip q.image bytes u v w goes).0)

  pub greatest_time : (frame_of q).size ≤ 2048 → {times moves preds : List ℕ} {reached : ℕ}
      → LeastTimes (frame_of q) (pages_of q) q.source times moves preds reached → (v : ℕ)
      → get_or times v no_time < no_time → get_or times v no_time ≤ 134150145
  greatest_time few least v has =
      let way = least.spells v has in
      omega (arith, way.0, spelled_within way.1)
