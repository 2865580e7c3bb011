use Rattle.common.proofs.Ground.{◌<◌, arith, rules, length}
use Rattle.image.specs.Image.{first_not_below}
use Rattle.image.proofs.Heading.{below_before}
use Rattle.store.proofs.Replaying.{replaying_first, replaying_next, replaying_all}
use Rattle.store.proofs.references.replay_list.Goals as goal

pub loop-p-init : goal.loop-p-init
loop-p-init c =
    replaying_first _ _ _ _ _ _ _ (c.new-links.ensures.nothing _ c.args.plant.now.table.few.1) c.args.plant.now.some
    c.args.plant.now.table.few.0 (search rules)

pub refer-reads-requires : goal.refer-reads-requires
refer-reads-requires c =
    let inside : c.loop-p.p-index < first_not_below c.args.plant.now.pages c.args.list.now =
    omega (arith, c.requires.entries, c.loop-p-test.true) in
    let bits : length c.args.list.now < 18446744073709551616 = search rules in
    record {
      store = c.loop-p.invariant.store;
      page = below_before _ _ _ inside;
      reads = omega (arith, bits, c.loop-p-test.true, c.loop-p.invariant.few);
    }

pub loop-p-preserved : goal.loop-p-preserved
loop-p-preserved c =
    replaying_next _ _ _ _ _ c.requires.entries c.loop-p.invariant c.loop-p-test.true c.refer-reads.ensures.memory
    c.refer-reads.ensures.referred

pub returns : goal.returns
returns c = record {
  value = replaying_all _ _ _ _ _ c.loop-p.invariant (omega arith);
}
