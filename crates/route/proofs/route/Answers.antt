-- `route::route` tells the cases of the definition apart, in its order (proofs/Calls.antt).
use Rattle.common.proofs.Ground.{◌≡◌, ◌∙◌, sym}
use Rattle.std.proofs.lemmas.Result.{err_from_is_err_and}
use Rattle.route.specs.declared.RouteRefusal.{RouteRefusal}
use Rattle.route.specs.declared.RouteRefusal.TheVariants.{Chain as no_chain}
use Rattle.route.proofs.Calls.{call_many, call_no_station, call_none, call_broken, call_short, call_found}
use Rattle.route.proofs.route.Goals.{then-preds-gt-MOST-via-then-preds-gt-MOST, then-preds-gt-MOST-via-else-preds-gt-MOST+then-preds-station}
use Rattle.route.proofs.route.Goals as goal

pub returns-then-preds-gt-MOST : goal.returns-then-preds-gt-MOST
returns-then-preds-gt-MOST c = record {
  handed = elim c.then-preds-gt-MOST.branch [
    | then-preds-gt-MOST-via-then-preds-gt-MOST w ↦ call_many _ _ _ w.if-preds-gt-MOST.true
    | then-preds-gt-MOST-via-else-preds-gt-MOST+then-preds-station w ↦ call_no_station _ _ _ w.if-preds-station.true
  ];
}

pub returns-then-predecessor_at : goal.returns-then-predecessor_at
returns-then-predecessor_at c = record {
  handed = call_none _ _ _ c.if-preds-gt-MOST.false c.if-preds-station.false _ c.predecessor_at.ensures.value
      c.if-predecessor_at.true;
}

pub returns-in_err-count : goal.returns-in_err-count
returns-in_err-count c =
    let chain : RouteRefusal = no_chain in
    let p = err_from_is_err_and c.from_residual.result c.from_residual.ensures.1 in
    let lost : c.in_err-count.field-0.0 ≡ chain =
    cc (rw c.in_err-count.ensures.ok_part at c.in_err-count.ensures.value) in
    record {
      handed = rw (p.1, p.2, lost)
          (call_broken _ _ _ c.if-preds-gt-MOST.false c.if-preds-station.false _ c.predecessor_at.ensures.value
          c.if-predecessor_at.false (sym c.in_err-count.ensures.ok_part ∙ c.count_stations.ensures.count));
    }

pub returns-then-out-count : goal.returns-then-out-count
returns-then-out-count c = record {
  handed = call_short _ _ _ c.if-preds-gt-MOST.false c.if-preds-station.false _ c.predecessor_at.ensures.value
      c.if-predecessor_at.false _ (sym c.in_ok-count.ensures.ok_part ∙ c.count_stations.ensures.count)
      c.if-out-count.true;
}

pub returns : goal.returns
returns c = record {
  handed = call_found _ _ _ c.if-preds-gt-MOST.false c.if-preds-station.false _ c.predecessor_at.ensures.value
      c.if-predecessor_at.false _ (sym c.in_ok-count.ensures.ok_part ∙ c.count_stations.ensures.count)
      c.if-out-count.false _ c.write_stations.ensures.written;
}
