-- What was passed is that of the images' own pages, and stays within them. Where both have no more moves, the next
-- station's own command is passed too.
use Rattle.common.proofs.Ground.{arith}
use Rattle.order.proofs.InCommon.{passed_near}
use Rattle.order.proofs.passing.pass_station.Goals as goal

pub overflow_add-at : goal.overflow_add-at
overflow_add-at c =
    let near = passed_near c.pass_moves-over.ensures.passed.passed c.requires.near.0 c.requires.near.1
    c.page_of.ensures.short c.page_of-2.ensures.short in
    omega (arith, c.length_of.ensures.value, near.0)

pub overflow_add-with : goal.overflow_add-with
overflow_add-with c =
    let near = passed_near c.pass_moves-over.ensures.passed.passed c.requires.near.0 c.requires.near.1
    c.page_of.ensures.short c.page_of-2.ensures.short in
    omega (arith, c.length_of-then-over.ensures.value, near.1)
