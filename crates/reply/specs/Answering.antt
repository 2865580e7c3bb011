-- For the code: what its query asks, and the reply to a call, by how the engine's search ended.
use Rattle.std.specs.Prelude.{List, ℕ, Result, Ok, Err}
use Rattle.image.specs.Image.{accepted, refused, on_page, fault_number}
use Rattle.reference.specs.declared.Query as reference
use Rattle.image.specs.declared.BadPage.{BadPage}
use Rattle.image.specs.declared.Refusal.{Refusal}
use Rattle.reply.specs.declared.TurnedDown.{TurnedDown}
use Rattle.reply.specs.Reply.{Query, asked, Reply, reply}

-- What the code's query asks of an image; the flag, which search it is, is not part of it.
abbrev pub asked_by : reference.Query → List ℕ → Query
asked_by query image = asked image query.source query.strip

abbrev pub reply_to : ℕ → Result Unit BadPage → ℕ → Reply
reply_to count (Ok over) reached = reply accepted count reached
reply_to count (Err bad) reached = reply (refused (fault_number bad.fault) (on_page bad.page bad.offset)) count 0

-- What a refusal of 1 to 7 is answered by: no page was listed.
abbrev pub before_pages : Refusal → TurnedDown
before_pages refusal = record { refusal = refusal; count = 0 }
