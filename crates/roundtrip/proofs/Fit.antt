-- Times and limits that two bytes hold: by index, as memory has them, and by the list.
use Rattle.common.proofs.Ground.{List, [], ◌∷◌, ℕ, suc, ◌<◌, arith, length, get_or}
use Rattle.move_record.specs.declared.MoveRecord.{MoveRecord}
use Rattle.move_record.specs.Records.{no_record}

abbrev pub Fits : MoveRecord → Type 0
Fits r = (r.time < 65536) × (r.limit < 65536)

abbrev pub AllFit : List MoveRecord → Type 0
AllFit records =
    (k : ℕ) → k < length records
    → ((get_or records k no_record).time < 65536) × ((get_or records k no_record).limit < 65536)

abbrev pub AllFits : List MoveRecord → Type 0
AllFits [] = Unit {0}
AllFits (r ∷ rs) = Fits r × AllFits rs

pub all_fits : (records : List MoveRecord) → AllFit records → AllFits records
all_fits [] f = tt
all_fits (r ∷ rs) f = (f 0 (omega arith), all_fits rs (λ k h. f (suc k) (omega arith)))
