use Rattle.common.proofs.Ground.{arith, length, get_or-eq_default}
use Rattle.image.proofs.bytes.greatest.Goals as goal

pub loop-b-init : goal.loop-b-init
loop-b-init c =
    let s = c.args.s.now in
    ((length s, get_or-eq_default s 0 {n = length s} (omega arith)), λ at l. absurd (omega arith))
