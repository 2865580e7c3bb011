use Rattle.common.proofs.Ground.{sym, ◌∙◌}
use Rattle.order.specs.Passing.{none, more}
use Rattle.order.proofs.InCommon.{step_on, on_less}
use Rattle.order.proofs.passing.pass_moves.Goals as goal

pub moves-init : goal.moves-init
moves-init c = none

pub moves-smaller : goal.moves-smaller
moves-smaller c =
    on_less _ _ _ _ _ _
    (step_on (sym c.next_move.ensures.value ∙ c.in-Some-Some.is-0)
    (sym c.next_move-in-moves.ensures.value ∙ c.in-Some-Some.is-1) c.in-Some-Some.m-is c.in-Some-Some.n-is
    c.if-eq.ensures)

pub moves-preserved : goal.moves-preserved
moves-preserved c =
    more _ _ c.moves.invariant
    (step_on (sym c.next_move.ensures.value ∙ c.in-Some-Some.is-0)
    (sym c.next_move-in-moves.ensures.value ∙ c.in-Some-Some.is-1) c.in-Some-Some.m-is c.in-Some-Some.n-is
    c.if-eq.ensures)
