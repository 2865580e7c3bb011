use Rattle.common.proofs.Ground.{ap, sym, ◌∙◌, ◌+◌, arith, paste, paste-suc, set, get_or, add-one}
use Rattle.imaging.proofs.bytes.copy_at.Goals as goal

pub loop-i-preserved : goal.loop-i-preserved
loop-i-preserved c =
    let source = c.args.source.now in
    let entry = get_or source c.loop-i.i 0 in
    ap (λ l. set l (c.args.at + c.loop-i.i) entry) c.loop-i.invariant ∙
    paste-suc c.args.bytes.now c.args.at source c.loop-i.i 0 (omega arith) (omega arith) ∙
    ap (paste c.args.bytes.now c.args.at source) (sym (add-one c.loop-i.i))
