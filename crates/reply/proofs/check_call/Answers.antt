-- The heading's check decides: passed, 6 and 7 follow; refused by 1 to 5, that refusal is the call's.
use Rattle.common.proofs.Ground.{◌∙◌}
use Rattle.std.proofs.lemmas.Result.{err_from_is_err_and}
use Rattle.reply.specs.Reply.{call_check}
use Rattle.reply.proofs.check_call.Goals as goal

pub returns-in_err-check_heading : goal.returns-in_err-check_heading
unfolding call_check
returns-in_err-check_heading c =
    let left = err_from_is_err_and c.from_residual.result c.from_residual.ensures.1 in
    record { outcome = rw (left.1, left.2, ← c.in_err-check_heading.ensures.outcome) }

pub returns : goal.returns
unfolding call_check
returns c = record {
  outcome = c.check_tables.ensures.outcome
      ∙ rw (← c.in_ok-check_heading.ensures.outcome, c.station_count.ensures.value);
}
