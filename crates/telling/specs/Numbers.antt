-- What the C interface makes of an outcome: a status and four numbers. The quoted words are those of include/yard.h.
use Rattle.std.specs.Prelude.{List, ◌∷◌, ℕ, ◌/◌, ◌%◌, ◌<◌, ltb, length, drop}
use Rattle.common.specs.Pick.{pick}
use Rattle.image.specs.Image.{nowhere, at_station, on_page, Outcome, accepted, refused}
use Rattle.route.specs.Route as route
use Rattle.reply.specs.Reply.{Reply}
use Rattle.roundtrip.specs.Written.{WriteOutcome, said, refused_record, refused_page}
use Rattle.ordering.specs.Order.{Naming, ordered, first_less, equal, second_less, first_refused, second_refused}
use Rattle.paging.specs.Store as store
use Rattle.telling.specs.declared.Numbers.{Numbers}

-- "Each call returns 0 if accepted, else the refusal's number"; of the answer the first four entries get count,
-- reached, the page "of a page refusal" or "for refusal 5 the station", and offset, "and numbers that do not apply
-- are 0".
abbrev pub numbers : ℕ → ℕ → ℕ → ℕ → ℕ → Numbers
numbers s c r p o = record { status = s; count = c; reached = r; place = p; offset = o }

abbrev pub of_outcome : Outcome → ℕ → ℕ → Numbers
of_outcome accepted count reached = numbers 0 count reached 0 0
of_outcome (refused number nowhere) count reached = numbers number count reached 0 0
of_outcome (refused number (at_station station)) count reached = numbers number count reached station 0
of_outcome (refused number (on_page p offset)) count reached = numbers number count reached p offset

abbrev pub of_check : Outcome → Numbers
of_check outcome = of_outcome outcome 0 0

abbrev pub of_search : Reply → Numbers
of_search reply = of_outcome reply.outcome reply.count reply.reached

-- The count is that of the "stations on the route"; "A station without a way returns 0 with answer[0] = 0".
abbrev pub of_route : route.Answer → Numbers
of_route (route.stations count) = numbers 0 count 0 0 0
of_route route.unreached = numbers 0 0 0 0 0
of_route (route.turned_down number) = numbers number 0 0 0 0

-- Of an image as records answer[0] is the number of "records of the image"; of a written image answer[2] is "for
-- refusal 5 the station", for 19 "the index of the record" and for 20 "the page".
abbrev pub of_read : Outcome → ℕ → Numbers
of_read outcome count = of_outcome outcome count 0

abbrev pub of_written : WriteOutcome → Numbers
of_written (said outcome) = of_outcome outcome 0 0
of_written (refused_record number index) = numbers number 0 0 index 0
of_written (refused_page number p) = numbers number 0 0 p 0

-- Of two maps answer[0] is "the map that comes first: 1 the first image's, 2 the second's, 0 if they are equal"; at a
-- refusal answer[1] is "the image that is refused: 1 the first, 2 the second".
abbrev pub of_order : Naming → Numbers
of_order (ordered equal) = numbers 0 0 0 0 0
of_order (ordered first_less) = numbers 0 1 0 0 0
of_order (ordered second_less) = numbers 0 2 0 0 0
of_order (first_refused number place) = of_outcome (refused number place) 0 1
of_order (second_refused number place) = of_outcome (refused number place) 0 2

-- Of a replay answer[0] is "the lower 32 bits of the number of reads", and answer[1] "the upper".
abbrev pub of_replay : store.Replay → Numbers
of_replay (store.reads n) = numbers 0 (n % 4294967296) (n / 4294967296) 0 0
of_replay (store.refused number) = numbers number 0 0 0 0

-- What a call returns and leaves in the answer. "Where answer has four entries or more, the first four get" the
-- numbers; "A shorter answer is left as it is, and so are later entries."
pub record Told : Type 0 where
  pub status : ℕ
  pub answer : List ℕ

abbrev pub told : ℕ → List ℕ → Told
told status answer = record { status = status; answer = answer }

abbrev pub told_by : Numbers → List ℕ → Told
told_by n answer =
    told n.status
    (pick (ltb (length answer) 4) answer (n.count ∷ n.reached ∷ n.place ∷ n.offset ∷ drop 4 answer))

-- For the code: numbers that a C caller's 32 bits hold, as those of every outcome are (yard/proofs/Small.antt).
pub record Small (n : Numbers) : Type 0 where
  pub count : n.count < 4294967296
  pub reached : n.reached < 4294967296
  pub offset : n.offset < 4294967296
