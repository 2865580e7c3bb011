-- Lists of move records: what stands past a list's end.
use Rattle.move_record.specs.declared.MoveRecord.{MoveRecord}

abbrev pub no_record : MoveRecord
no_record = record { from = 0; target = 0; time = 0; limit = 0 }
