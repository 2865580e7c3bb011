-- The numbers are those of the route's outcome, and small.
use Rattle.common.proofs.Ground.{sym, ap, ◌∙◌, subst}
use Rattle.route.specs.Route.{Handed}
use Rattle.telling.specs.Numbers.{of_route, Small}
use Rattle.yard.proofs.Small.{small_route}
use Rattle.yard.proofs.yard_route.Goals as goal

pub tell-requires : goal.tell-requires
tell-requires c = record {
  small = subst Small
      (sym (c.from.ensures ∙ ap (λ (h : Handed). of_route h.answer) c.route.ensures.handed))
      (small_route _ _ _);
}
