-- Whether the map has the station decides; what is promised holds of every answer (proofs/Promising.antt).
use Rattle.common.proofs.Ground.{sym, ◌∙◌, ap, arith}
use Rattle.panel.specs.Panel.{inside}
use Rattle.panel.proofs.Answers.{answer_past}
use Rattle.panel.proofs.Promising.{inside_promised}
use Rattle.panel.proofs.time_to.Goals as goal

pub returns-then-station_count-station : goal.returns-then-station_count-station
returns-then-station_count-station c = record {
  promised = inside_promised _ _ (λ i. omega (arith, c.type_inv.image i)) _
      (c.no_such_station.ensures.value ∙ ap inside (sym (answer_past _ _ (omega (arith, c.if-station_count-station.true, c.station_count.ensures.value)))));
}

pub returns : goal.returns
returns c = record {
  promised = inside_promised _ _ (λ i. omega (arith, c.type_inv.image i)) _ c.on_map.ensures.value;
}
