-- What `time_to` promises of the answer inside holds of it outside, as one float (panel/proofs/Promising.antt).
use Rattle.common.proofs.Ground.{ap, ◌∙◌, arith}
use Rattle.panel.specs.Panel.{outside}
use Rattle.panel.proofs.Promising.{outside_promised}
use Rattle.yard.proofs.yard_panel.Goals as goal

pub returns : goal.returns
returns c = record {
  promised = outside_promised _ _ (λ i. omega (arith, c.type_inv.image i)) _
      (c.one_float.ensures.value ∙ ap outside c.time_to.ensures.promised.outcome);
}
