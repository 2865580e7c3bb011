-- After i turns the first i records are taken, and times and limits that are listed fit as they did.
use Rattle.common.proofs.Ground.{◌≡◌, take}
use Rattle.writing.specs.Taking.{Fits, taken}
use Rattle.records.proofs.take_all.Given as goal

abbrev pub invariant-loop-i : goal.invariant-loop-i
invariant-loop-i l = record {
  taken_so : l.memory ≡ taken l.size l.initial.memory 0 (take l.i l.records);
  fits : Fits l.initial.memory.records → Fits l.memory.records;
}
