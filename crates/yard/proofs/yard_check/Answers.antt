-- The numbers are those of the check's outcome, and small.
use Rattle.common.proofs.Ground.{sym, ap, ◌∙◌, subst}
use Rattle.telling.specs.Numbers.{of_check, Small}
use Rattle.yard.proofs.Small.{small_check}
use Rattle.yard.proofs.yard_check.Goals as goal

pub tell-requires : goal.tell-requires
tell-requires c = record {
  small = subst Small (sym (c.from.ensures ∙ ap of_check c.check.ensures.outcome))
      (small_check _);
}
