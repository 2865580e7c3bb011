-- By the order of the numbers of stations; where they are equal, by that of the records.
use Rattle.common.proofs.Ground.{◌∙◌}
use Rattle.order.proofs.Ordered.{stations_equal, stations_decide}
use Rattle.order.proofs.by_map.Goals as goal

pub returns-in-Equal : goal.returns-in-Equal
returns-in-Equal c = record {
  value = c.by_records.ensures.value ∙
      stations_equal _ _ _ c.station_count.ensures.value c.station_count-2.ensures.value c.cmp.ensures c.in-Equal.is;
}

pub returns-in_default : goal.returns-in_default
returns-in_default c = record {
  value = stations_decide _ _ _ c.station_count.ensures.value c.station_count-2.ensures.value c.cmp.ensures
      c.in_default.not-Equal;
}
