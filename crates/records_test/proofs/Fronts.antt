-- So many records at the front of a new list are so many.
use Rattle.std.proofs.Common.{◌≡◌, sym, ℕ, ◌≤◌, arith, length, replicate, take}
use lib.ListN.{length-replicate}
use lib.Seq.{length-take-le}
use Rattle.move_record.specs.declared.MoveRecord.{MoveRecord}
use Rattle.move_record.specs.Records.{no_record}

pub front : (n : ℕ) → n ≤ 12240 → n ≡ length (take n (replicate 12240 no_record))
front n h =
    sym (length-take-le n (replicate 12240 no_record) (omega (arith, length-replicate {A = MoveRecord} 12240 no_record)))
