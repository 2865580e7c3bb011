-- The numbers are those of what is said of the two maps, and small.
use Rattle.common.proofs.Ground.{sym, ap, ◌∙◌, subst}
use Rattle.telling.specs.Numbers.{of_order, Small}
use Rattle.yard.proofs.Small.{small_order}
use Rattle.yard.proofs.yard_order.Goals as goal

pub tell-requires : goal.tell-requires
tell-requires c = record {
  small = subst Small (sym (c.from.ensures ∙ ap of_order c.compare.ensures.promised.outcome))
      (small_order _ _);
}
