-- The loop's invariant: whatever was left where the call began is left where the walk stands now
-- (proofs/Standing.antt).
use Rattle.common.proofs.Ground.{List}
use Rattle.move_record.specs.declared.MoveRecord.{MoveRecord}
use Rattle.by_station.specs.Standing.{Standing}
use Rattle.by_station.proofs.Walk.next_record.Given as goal

abbrev pub invariant-loop-u : goal.invariant-loop-u
invariant-loop-u l =
    (left : List MoveRecord) → Standing l.fn.self.image.now l.from l.initial.offsets left
    → Standing l.fn.self.image.now l.u l.offsets left
