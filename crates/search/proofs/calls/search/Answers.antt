-- Refusals 1 to 7 decide: passed, the search on the map speaks; refused, that refusal is the answer, and no table is
-- touched.
use Rattle.common.proofs.Ground.{sym, ◌∙◌}
use Rattle.std.proofs.lemmas.Result.{err_from_is_err_and}
use Rattle.reply.specs.Reply.{searched}
use Rattle.search.proofs.calls.search.Goals as goal

pub returns-in_err-check_call : goal.returns-in_err-check_call
unfolding searched
returns-in_err-check_call c =
    let left = err_from_is_err_and c.from_residual.result c.from_residual.ensures.1 in
    record { outcome = rw (left.1, left.2, ← c.in_err-check_call.ensures.outcome) }

pub returns : goal.returns
unfolding searched
returns c = record { outcome = c.on_map.ensures.outcome ∙ rw (← c.in_ok-check_call.ensures.outcome) }
