-- What the library's comparisons of numbers, of records and of what comes next say in the papers' words.
use Rattle.common.proofs.Ground.{◌≡◌, refl, sym, ◌∙◌, List, ℕ, arith, lt-ltb, le-ltb, ◌<◌}
use Rattle.std.specs.Prelude.{Option, Some, None}
use Rattle.std.specs.Ordering.{nat_cmp, ordering_then, MatchOrdering}
use Rattle.std.proofs.lemmas.Cmp.{ranked}
use Rattle.std.specs.Option.{option_cmp}
use Rattle.std.specs.declared.cmp.Ordering.{Ordering}
use Rattle.std.specs.declared.cmp.Ordering.TheVariants.{Less, Equal, Greater}
use Rattle.move_record.specs.declared.MoveRecord.{MoveRecord}
use Rattle.move_record.specs.contracts.MoveRecordOrd.TheImpl.{cmp-value}
use Rattle.image.specs.Image.{station_count}
use Rattle.roundtrip.specs.Records.{records_of}
use Rattle.ordering.specs.Order.{and_then, by_number, by_record, by_records, by_map}
use Rattle.order.specs.Answers.{order_in}
use Rattle.order.specs.Next.{next_order}

pub by_numbers : (a b : ℕ) → order_in (nat_cmp a b) ≡ by_number a b
by_numbers a b = by (nat_cmp a b) (ranked a b (nat_cmp a b) refl)
  where
    by : (o : Ordering) → MatchOrdering o (a < b) (a ≡ b) (b < a) → order_in o ≡ by_number a b
    by Less less = rw (lt-ltb a b less)
    by Equal same = rw (le-ltb a b (omega arith), le-ltb b a (omega arith))
    by Greater more = rw (le-ltb a b (omega arith), lt-ltb b a more)

pub in_turn : (order following : Ordering) → order_in (ordering_then order following) ≡ and_then (order_in order) (order_in following)
in_turn Less following = refl
in_turn Equal following = refl
in_turn Greater following = refl

pub by_records_cmp : (r s : MoveRecord) → order_in (cmp-value.it r s) ≡ by_record r s
unfolding by_record
by_records_cmp r s =
    let limits = nat_cmp r.limit s.limit in
    let times = ordering_then (nat_cmp r.time s.time) limits in
    let targets = ordering_then (nat_cmp r.target s.target) times in
    rw (
      in_turn (nat_cmp r.from s.from) targets,
      in_turn (nat_cmp r.target s.target) times,
      in_turn (nat_cmp r.time s.time) limits,
      by_numbers r.from s.from,
      by_numbers r.target s.target,
      by_numbers r.time s.time,
      by_numbers r.limit s.limit,
    )

pub by_next : (first second : Option MoveRecord) → order_in (option_cmp cmp-value.it first second) ≡ next_order first second
by_next (Some r) (Some s) = by_records_cmp r s
by_next (Some r) None = refl
by_next None (Some s) = refl
by_next None None = refl

-- The numbers of stations decide where they are not equal, and else what follows them.
module _ (first second : List ℕ) {m n : ℕ} (o : Ordering) (is : m ≡ station_count first) (also : n ≡ station_count second)
    (e : o ≡ nat_cmp m n) where
  by_stations : by_map first second ≡ and_then (order_in o) (by_records (records_of first) (records_of second))
  unfolding by_map
  by_stations = rw (e, by_numbers m n, is, also)

  pub stations_equal : o ≡ Equal → by_records (records_of first) (records_of second) ≡ by_map first second
  stations_equal same = sym (rw same at by_stations)

  pub stations_decide : (o ≡ Equal → ⊥) → order_in o ≡ by_map first second
  stations_decide unequal = by o unequal ∙ sym by_stations
    where
      by : (p : Ordering) → (p ≡ Equal → ⊥)
          → order_in p ≡ and_then (order_in p) (by_records (records_of first) (records_of second))
      by Less h = refl
      by Equal h = absurd (h refl)
      by Greater h = refl
