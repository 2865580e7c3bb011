-- By the command that stands there. A move ends within the page, so that the offset behind it fits.
use Rattle.common.proofs.Ground.{ap, sym, ◌∙◌, arith}
use Rattle.std.specs.Prelude.{Ok}
use Rattle.commands.specs.Commands.{command_in}
use Rattle.commands.proofs.Lengths.{stands}
use Rattle.by_station.proofs.next_move.Goals as goal

pub overflow_add-result : goal.overflow_add-result
overflow_add-result c =
    let is = c.in-Ok-MoveTo.is ∙ ap Ok c.in-Ok-MoveTo.field-0-is in
    let ends = (stands _ _ (sym c.command_at.ensures.value ∙ ap command_in is)).ends in
    omega (arith, c.length_of.ensures.value)

pub overflow_add-result-in-Ok-Limited : goal.overflow_add-result-in-Ok-Limited
overflow_add-result-in-Ok-Limited c =
    let is = c.in-Ok-Limited.is ∙ ap Ok c.in-Ok-Limited.field-0-is in
    let ends = (stands _ _ (sym c.command_at.ensures.value ∙ ap command_in is)).ends in
    omega (arith, c.length_of-in-Ok-Limited.ensures.value)
