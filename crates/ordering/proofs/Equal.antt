-- Equal is said exactly when N and the moves are the same. What is equal by one order and then by another is equal by
-- both, so that equal is said of the same N and records, and only of these. And the records of wholly good images that
-- have the same members are the same list (Members).
use Rattle.common.proofs.Ground.{◌≡◌, refl, ap, List, [], ◌∷◌, ℕ, ◌<◌, arith, lt-ltb, le-ltb}
use Rattle.common.proofs.Cases.{by_order, never}
use Rattle.image.specs.Bytes.{Bytes}
use Rattle.image.specs.Image.{Outcome, accepted, refused, station_count}
use Rattle.whole.specs.Check.{whole_check}
use Rattle.move_record.specs.declared.MoveRecord.{MoveRecord}
use Rattle.roundtrip.specs.Records.{record_for, records_of}
use Rattle.roundtrip.specs.Written.{move_of}
use Rattle.ordering.specs.Order.{Order, first_less, equal, second_less, and_then, by_number, by_record, by_records}
use Rattle.ordering.specs.Order.{by_map, ordered, after_first, after_second, naming}
use Rattle.ordering.specs.Promises.{SameMoves, EqualExactly}
use Rattle.ordering.proofs.Members.{records_ordered, same_members}

-- What is said of two numbers. What is said to be equal is the same.
module _ (a b : ℕ) where
  pub says_less : a < b → by_number a b ≡ first_less
  says_less less = rw (lt-ltb a b less)

  pub says_equal : a ≡ b → by_number a b ≡ equal
  says_equal same = rw (le-ltb a b (omega arith), le-ltb b a (omega arith))

  pub says_more : b < a → by_number a b ≡ second_less
  says_more more = rw (le-ltb a b (omega arith), lt-ltb b a more)

  pub equal_numbers : by_number a b ≡ equal → a ≡ b
  equal_numbers e =
      by_order a b (λ less. never (cc (says_less less))) (λ same. same) (λ more. never (cc (says_more more)))

then_equal : (o following : Order) → and_then o following ≡ equal → (o ≡ equal) × (following ≡ equal)
then_equal first_less following e = never (cc)
then_equal equal following e = (refl, e)
then_equal second_less following e = never (cc)

same_then : (a b : ℕ) (following : Order) → and_then (by_number a b) following ≡ equal
    → (a ≡ b) × (following ≡ equal)
same_then a b following e =
    let both = then_equal (by_number a b) following e in (equal_numbers a b both.0, both.1)

pub equal_record : (r s : MoveRecord) → by_record r s ≡ equal → r ≡ s
unfolding by_record
equal_record r s e =
    let from = same_then r.from s.from _ e in
    let target = same_then r.target s.target _ from.1 in
    let time = same_then r.time s.time _ target.1 in
    let limit : r.limit ≡ s.limit = equal_numbers r.limit s.limit time.1 in
    let same : record_for r.from (move_of r) ≡ record_for s.from (move_of s) = cc in
    same

equal_records : (rs ss : List MoveRecord) → by_records rs ss ≡ equal → rs ≡ ss
unfolding by_records
equal_records [] [] e = refl
equal_records [] (s ∷ ss) e = never (cc)
equal_records (r ∷ rs) [] e = never (cc)
equal_records (r ∷ rs) (s ∷ ss) e =
    let both = then_equal (by_record r s) (by_records rs ss) e in
    cc (equal_record r s both.0, equal_records rs ss both.1)

-- And what is the same is said to be equal.
pub record_itself : (r : MoveRecord) → by_record r r ≡ equal
unfolding by_record
record_itself r =
    rw (
      says_equal r.from r.from refl,
      says_equal r.target r.target refl,
      says_equal r.time r.time refl,
      says_equal r.limit r.limit refl,
    )

records_themselves : (rs : List MoveRecord) → by_records rs rs ≡ equal
unfolding by_records
records_themselves [] = refl
records_themselves (r ∷ rs) = rw (record_itself r) (records_themselves rs)

-- What holds where the call says equal.
pub record BothEqual (first second : List ℕ) : Type 0 where
  pub first_whole : whole_check first ≡ accepted
  pub second_whole : whole_check second ≡ accepted
  pub stations : station_count first ≡ station_count second
  pub records : records_of first ≡ records_of second

pub both_equal : (first second : List ℕ) → naming first second ≡ ordered equal → BothEqual first second
unfolding naming by_map
both_equal first second = by_outcomes (whole_check first) (whole_check second) refl refl
  where
    by_outcomes : (o also : Outcome) → whole_check first ≡ o → whole_check second ≡ also
        → after_first o (after_second also (by_map first second)) ≡ ordered equal → BothEqual first second
    by_outcomes accepted accepted x y e =
        let both = same_then (station_count first) (station_count second)
        (by_records (records_of first) (records_of second)) (cc) in
        record {
          first_whole = x;
          second_whole = y;
          stations = both.0;
          records = equal_records (records_of first) (records_of second) both.1;
        }
    by_outcomes accepted (refused number place) x y e = never (cc)
    by_outcomes (refused number place) also x y e = never (cc)

pub equal_exactly : (first second : List ℕ) → Bytes first → Bytes second → EqualExactly first second
unfolding naming by_map
equal_exactly first second bytes also = record {
  whole = λ e. ((both_equal first second e).first_whole, (both_equal first second e).second_whole);
  stations = λ e. (both_equal first second e).stations;
  records = λ e. (both_equal first second e).records;
  exactly = said_equal;
}
  where
    said_equal : whole_check first ≡ accepted → whole_check second ≡ accepted → station_count first ≡ station_count second
        → SameMoves first second → naming first second ≡ ordered equal
    said_equal w v stations moves =
        let records = same_members (station_count first) 0 0 0 0 (records_of first) (records_of second)
        (records_ordered first bytes w) (rw stations (records_ordered second also v))
        moves.to_second moves.to_first in
        rw (w, v, says_equal (station_count first) (station_count second) stations, records)
        (ap ordered (records_themselves (records_of second)))
