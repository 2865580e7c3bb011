-- The loop's invariant: all bytes from `at` on are 0 exactly if the sum is and those from i on are; and the sum is at
-- most 255 for each byte passed. A byte added to the sum is one step of the scan (proofs/Scans.antt).
use Rattle.common.proofs.Ground.{◌≡◌, ◌*◌, ◌≤◌, drop}
use Rattle.image.specs.Bytes.{all_zero}
use Rattle.image.proofs.Scans.{zero_with}
use Rattle.image.proofs.bytes.zero_from.Given as goal

abbrev pub invariant-loop-i : goal.invariant-loop-i
invariant-loop-i l = (zero_with l.s l.sum l.i ≡ all_zero (drop l.at l.s)) × (l.sum ≤ 255 * l.i)
