-- What the writer's answer says in the papers' numbers and values.
use Rattle.std.specs.Prelude.{Result, Ok, Err}
use Rattle.image.specs.Image.{accepted, refused, number_of, place_of}
use Rattle.roundtrip.specs.Written.{WriteOutcome, said, refused_record, refused_page}
use Rattle.writing.specs.declared.WriteRefusal.{WriteRefusal}
use Rattle.writing.specs.declared.WriteRefusal.TheVariants.{Shape, Record, Page}

abbrev pub outcome_of_write : Result Unit WriteRefusal → WriteOutcome
outcome_of_write (Ok done) = said accepted
outcome_of_write (Err (Shape refusal)) = said (refused (number_of refusal) (place_of refusal))
outcome_of_write (Err (Record index)) = refused_record 19 index
outcome_of_write (Err (Page p)) = refused_page 20 p
