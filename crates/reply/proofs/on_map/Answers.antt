-- The engine's search ends as the definition's does; its cells are written into the first N entries of the tables, and
-- what is handed back is the definition's (`handed_over`, proofs/Ending.antt).
use Rattle.common.proofs.Ground.{sym, arith, length-take, length-take-le}
use Rattle.reply.proofs.Checking.{admitted, long_enough}
use Rattle.reply.proofs.Searches.{size_of, few_stations}
use Rattle.reply.proofs.Ending.{handed_over}
use Rattle.reply.proofs.on_map.Goals as goal

pub search_in-ended-requires-clause-formed : goal.search_in-ended-requires-clause-formed
search_in-ended-requires-clause-formed c =
    let a = admitted _ _ c.requires.passed in
    a.heading

pub search_in-ended-requires-clause-source : goal.search_in-ended-requires-clause-source
search_in-ended-requires-clause-source c =
    let a = admitted _ _ c.requires.passed in
    rw (size_of _ _ a) a.inside

pub search_in-ended-requires-clause-room : goal.search_in-ended-requires-clause-room
search_in-ended-requires-clause-room c =
    let a = admitted _ _ c.requires.passed in
    omega (arith, size_of _ _ a, (long_enough _ _ a).4)

pub slice_bounds-finish-end : goal.slice_bounds-finish-end
slice_bounds-finish-end c =
    omega (arith, c.station_count-n.ensures.value, long_enough _ _ (admitted _ _ c.requires.passed))

pub slice_bounds-finish-end-2 : goal.slice_bounds-finish-end-2
slice_bounds-finish-end-2 c =
    sym
    (length-take-le _ _
    (omega (arith, c.station_count-n.ensures.value, long_enough _ _ (admitted _ _ c.requires.passed))))

pub slice_bounds-finish-end-3 : goal.slice_bounds-finish-end-3
slice_bounds-finish-end-3 c =
    omega (arith, c.station_count-n.ensures.value, long_enough _ _ (admitted _ _ c.requires.passed))

pub slice_bounds-finish-end-4 : goal.slice_bounds-finish-end-4
slice_bounds-finish-end-4 c =
    sym
    (length-take-le _ _
    (omega (arith, c.station_count-n.ensures.value, long_enough _ _ (admitted _ _ c.requires.passed))))

pub slice_bounds-finish-end-5 : goal.slice_bounds-finish-end-5
slice_bounds-finish-end-5 c =
    omega (arith, c.station_count-n.ensures.value, long_enough _ _ (admitted _ _ c.requires.passed))

pub slice_bounds-finish-end-6 : goal.slice_bounds-finish-end-6
slice_bounds-finish-end-6 c =
    sym
    (length-take-le _ _
    (omega (arith, c.station_count-n.ensures.value, long_enough _ _ (admitted _ _ c.requires.passed))))

pub slice_bounds-finish-end-7 : goal.slice_bounds-finish-end-7
slice_bounds-finish-end-7 c =
    omega (arith, c.station_count-n.ensures.value, long_enough _ _ (admitted _ _ c.requires.passed))

pub slice_bounds-finish-end-8 : goal.slice_bounds-finish-end-8
slice_bounds-finish-end-8 c =
    sym
    (length-take-le _ _
    (omega (arith, c.station_count-n.ensures.value, long_enough _ _ (admitted _ _ c.requires.passed))))

pub finish-reached-requires-clause-cells : goal.finish-reached-requires-clause-cells
finish-reached-requires-clause-cells c =
    let a = admitted _ _ c.requires.passed in
    simp length-take
    (omega (
      arith,
      c.station_count-n.ensures.value,
      long_enough _ _ a,
      few_stations _ _ a,
      size_of _ _ a,
      c.cells.ensures.size,
    ))

pub finish-reached-requires-clause-sizes : goal.finish-reached-requires-clause-sizes
finish-reached-requires-clause-sizes c =
    simp length-take
    (omega (arith, c.station_count-n.ensures.value, long_enough _ _ (admitted _ _ c.requires.passed)))

pub returns : goal.returns
returns c = record {
  outcome = handed_over c.args.query.df _ _ (λ i. omega (arith, c.type_inv.image i))
      (admitted _ _ c.requires.passed) _ _ _ _ _ _ _ c.station_count-n.result c.station_count-n.ensures.value
      c.finish-reached.auto.times c.finish-reached.auto.moves c.finish-reached.auto.preds c.finish-reached.auto.marks
      c.search_in-ended.result.count c.search_in-ended.result.outcome _ c.search_in-ended.ensures.ended
      (rw (c.is_ok.ensures.value, c.cells.ensures.value) at c.finish-reached.ensures.finished) c.answer_of.ensures.value;
}
