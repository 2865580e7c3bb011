-- One turn, or as many as are given: either way the page's turns are made.
use Rattle.work.proofs.work_page.Goals as goal

pub returns-then-turns-eq1 : goal.returns-then-turns-eq1
returns-then-turns-eq1 c = record {
  worked = λ q k hand. c.take_turn.ensures.worked q k (rw c.if-turns-eq1.true at hand);
}
