-- The least of the groups is the least of their leaves (`top_least`).
use Rattle.common.proofs.Ground.{◌≡◌, ℕ, ◌∙◌, ◌+◌, ◌-◌, ◌*◌, ◌/◌, arith}
use Rattle.queue.proofs.Groups.{top_least}
use Rattle.queue.proofs.top.Goals as goal

pub returns : goal.returns
returns c =
    let counted : (groups : ℕ) → 256 + groups - 256 ≡ groups = λ groups. omega arith in record {
      least = (rw counted at c.least_key.ensures.least) ∙ top_least _ c.requires.groups ((c.args.pages + 63) / 64 * 4) (omega arith);
    }
