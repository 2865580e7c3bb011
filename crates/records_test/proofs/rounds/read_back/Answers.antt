use Rattle.std.proofs.Common.{arith}
use Rattle.records_test.proofs.Fronts.{front}
use Rattle.records_test.proofs.rounds.read_back.Goals as goal

pub slice_bounds-list-end-2 : goal.slice_bounds-list-end-2
slice_bounds-list-end-2 g c = front _ (omega (arith, c.min.ensures))
