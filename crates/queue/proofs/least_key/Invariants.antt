-- Both loops keep `Scan`: what was found so far is the least of the keys up to where the loop has come.
use Rattle.common.proofs.Ground.{◌+◌, ◌*◌, ◌/◌, length}
use Rattle.queue.proofs.Scan.{Scan}
use Rattle.queue.proofs.least_key.Given as goal

abbrev pub invariant-loop-four : goal.invariant-loop-four
invariant-loop-four l = Scan l.keys l.least (4 * l.four-index)

abbrev pub invariant-loop-key : goal.invariant-loop-key
invariant-loop-key l = Scan l.keys l.least (length l.keys / 4 * 4 + l.key-index)
