-- The page is held, or room is made for it (proofs/Referring.antt).
use Rattle.std.proofs.lemmas.Grind.{common_steps}
use Rattle.common.proofs.Ground.{arith}
use Rattle.store.proofs.Referring.{referred_held, referred_read}
use Rattle.store.proofs.references.refer.Goals as goal

pub returns-then-holds-clause-referred : goal.returns-then-holds-clause-referred
returns-then-holds-clause-referred c =
    referred_held _ c.args.plant.now.table.few.1 _ _ _ _ _ _ _ c.requires.store.some
    c.requires.store.memory.0 c.requires.store.memory.1 _ c.requires.page (grind (arith, common_steps))
    c.take_out.ensures.older c.take_out.ensures.newer c.put_first.ensures.older c.put_first.ensures.newer

pub returns-clause-referred : goal.returns-clause-referred
returns-clause-referred c =
    referred_read _ c.args.plant.now.table.few.1 _ _ _ _ _ _ _ c.requires.store.some
    c.requires.store.memory.0 c.requires.store.memory.1 _ c.requires.page (grind (arith, common_steps))
    c.make_room.ensures.memory.0 c.make_room.ensures.memory.1 c.make_room.ensures.room c.put_first-2.ensures.older
    c.put_first-2.ensures.newer
