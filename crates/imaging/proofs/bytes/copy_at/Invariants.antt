-- The invariant: so many entries of the source are pasted (lib.Seq).
use Rattle.common.proofs.Ground.{◌≡◌, paste}
use Rattle.imaging.proofs.bytes.copy_at.Given as goal

abbrev pub invariant-loop-i : goal.invariant-loop-i
invariant-loop-i l = l.bytes ≡ paste l.initial.bytes l.at l.source l.i
