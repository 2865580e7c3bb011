-- The order of maps (02, C-17), what the naming call says, and which image the other call hands back.
use Rattle.std.specs.Prelude.{List, [], ◌∷◌, ℕ, ltb}
use Rattle.common.specs.Pick.{pick}
use Rattle.image.specs.Image.{Place, Outcome, accepted, refused, station_count}
use Rattle.whole.specs.Check.{whole_check}
use Rattle.move_record.specs.declared.MoveRecord.{MoveRecord}
use Rattle.roundtrip.specs.Records.{records_of}

-- How the first of two stands to the second.
pub data Order : Type 0 where
  first_less : Order
  equal : Order
  second_less : Order

-- By what comes first, and only where that is equal by what follows.
abbrev pub and_then : Order → Order → Order
and_then first_less following = first_less
and_then equal following = following
and_then second_less following = second_less

abbrev pub by_number : ℕ → ℕ → Order
by_number a b = pick (ltb a b) first_less (pick (ltb b a) second_less equal)

-- "on (from, target, time, limit)"
unfoldable pub by_record : MoveRecord → MoveRecord → Order
by_record r s =
    and_then (by_number r.from s.from)
    (and_then (by_number r.target s.target)
    (and_then (by_number r.time s.time) (by_number r.limit s.limit)))

-- "by their records as a list, record by record .., a list that is a front part of another coming first"
unfoldable pub by_records : List MoveRecord → List MoveRecord → Order
by_records [] [] = equal
by_records [] (s ∷ ss) = first_less
by_records (r ∷ rs) [] = second_less
by_records (r ∷ rs) (s ∷ ss) = let rest = by_records rs ss in and_then (by_record r s) rest

-- "Maps are ordered by N, then by their records"
unfoldable pub by_map : List ℕ → List ℕ → Order
by_map first second =
    and_then (by_number (station_count first) (station_count second)) (by_records (records_of first) (records_of second))

-- "One call names the lesser or says equal"; "The naming call refuses by the whole check, the first image first, saying
-- which and where."
pub data Naming : Type 0 where
  ordered : Order → Naming
  first_refused : ℕ → Place → Naming
  second_refused : ℕ → Place → Naming

abbrev pub after_second : Outcome → Order → Naming
after_second accepted order = ordered order
after_second (refused number place) order = second_refused number place

abbrev pub after_first : Outcome → Naming → Naming
after_first accepted following = following
after_first (refused number place) following = first_refused number place

unfoldable pub naming : List ℕ → List ℕ → Naming
naming first second = after_first (whole_check first) (after_second (whole_check second) (by_map first second))

-- "another hands back that image itself, not a copy; of equals, or if refused, the first": of two things of any kind,
-- so also of two references.
abbrev pub lesser_of : {A : Type 0} → Naming → A → A → A
lesser_of (ordered first_less) first second = first
lesser_of (ordered equal) first second = first
lesser_of (ordered second_less) first second = second
lesser_of (first_refused number place) first second = first
lesser_of (second_refused number place) first second = first
