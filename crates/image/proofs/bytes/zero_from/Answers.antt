use Rattle.common.proofs.Ground.{sym, ◌∙◌, arith}
use Rattle.image.proofs.Scans.{zero_added, zero_end}
use Rattle.image.proofs.bytes.zero_from.Goals as goal

pub loop-i-preserved : goal.loop-i-preserved
loop-i-preserved c =
    let s = c.args.s.now in (
      rw c.from-sum.ensures (zero_added s c.loop-i.sum c.loop-i.i c.loop-i-test.true) ∙ c.loop-i.invariant.0,
      omega (arith, c.type_inv.s c.loop-i.i),
    )

pub returns : goal.returns
returns c = record {
  value = sym (zero_end c.args.s.now c.loop-i.sum c.loop-i.i c.loop-i-test.false) ∙ c.loop-i.invariant.0;
}
