-- A frame is free, or a page leaves (proofs/Referring.antt).
use Rattle.common.proofs.Ground.{◌∙◌}
use Rattle.store.proofs.Referring.{room_made}
use Rattle.store.proofs.references.make_room.Goals as goal

pub returns-clause-room : goal.returns-clause-room
returns-clause-room c =
    λ held h. rw (c.forget.ensures.newer) (room_made _ c.args.plant.now.table.few.1 _ _ _ _ _ _ _ c.requires.store.some
    c.requires.store.memory.0 c.requires.store.memory.1 c.if-reads-plant.false c.leaving_page-p.ensures.leaves h
    (c.forget.ensures.older ∙ c.take_out.ensures.older) c.take_out.ensures.newer)
