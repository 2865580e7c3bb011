-- The order of maps is total. An order is lawful if it says the other way round when asked the other way round, and if
-- "not above" is transitive in it. The order of numbers is lawful; so is one by a key, or by one order and then by
-- another, and so is that of lists of records, by induction over the lists.
use Rattle.common.proofs.Ground.{◌≡◌, ◌≢◌, refl, ap, sym, ◌∙◌, ◌⊎◌, inl, inr, List, [], ◌∷◌, ℕ, ◌≤◌, ◌<◌, arith}
use Rattle.common.proofs.Cases.{by_order, never}
use Rattle.image.specs.Image.{station_count}
use Rattle.move_record.specs.declared.MoveRecord.{MoveRecord}
use Rattle.roundtrip.specs.Records.{records_of}
use Rattle.ordering.specs.Order.{Order, first_less, equal, second_less, and_then, by_number, by_record, by_records}
use Rattle.ordering.specs.Order.{by_map}
use Rattle.ordering.specs.Promises.{turned, TotalOrder}
use Rattle.ordering.proofs.Equal.{says_less, says_equal, says_more}

-- "Not above" is that the second is not said to be less.
pub record Lawful {A : Type 0} (order : A → A → Order) : Type 0 where
  pub other_way : (a b : A) → order b a ≡ turned (order a b)
  pub transitive : (a b c : A) → order a b ≢ second_less → order b c ≢ second_less → order a c ≢ second_less

-- What is said of two, turned round.
turned_then : (o following : Order) → turned (and_then o following) ≡ and_then (turned o) (turned following)
turned_then first_less following = refl
turned_then equal following = refl
turned_then second_less following = refl

either_way : (o : Order) → (o ≢ second_less) ⊎ (turned o ≢ second_less)
either_way first_less = inl (λ e. never (cc))
either_way equal = inl (λ e. never (cc))
either_way second_less = inr (λ e. never (cc))

neither_less : (o : Order) → o ≢ second_less → turned o ≢ second_less → o ≡ equal
neither_less first_less here there = absurd (there refl)
neither_less equal here there = refl
neither_less second_less here there = absurd (here refl)

-- What one order and then another says is not above if the first is not, and where it is equal the second is not.
then_not_above : (o : Order) {following : Order} → o ≢ second_less → (o ≡ equal → following ≢ second_less)
    → and_then o following ≢ second_less
then_not_above first_less h k = h
then_not_above equal h k = k refl
then_not_above second_less h k = h

module _ {A : Type 0} {order : A → A → Order} (l : Lawful order) where
  -- What stands between equals is equal to them.
  between_equals : (a b c : A) → order a b ≢ second_less → order b c ≢ second_less → order a c ≡ equal
      → (order a b ≡ equal) × (order b c ≡ equal)
  between_equals a b c h k e =
      let back : order c a ≢ second_less = λ more. never (cc (l.other_way a c)) in (
        neither_less (order a b) h (rw (← l.other_way a b) (l.transitive b c a k back)),
        neither_less (order b c) k (rw (← l.other_way b c) (l.transitive c a b back h)),
      )

  -- Whatever follows where this order says equal: what is said is turned if that is, and transitive if that is.
  then_other_way : (a b : A) (x y : Order) → y ≡ turned x → and_then (order b a) y ≡ turned (and_then (order a b) x)
  then_other_way a b x y e = rw (l.other_way a b, e) (sym (turned_then (order a b) x))

  then_transitive : (a b c : A) {x y z : Order} → (x ≢ second_less → y ≢ second_less → z ≢ second_less)
      → and_then (order a b) x ≢ second_less → and_then (order b c) y ≢ second_less
      → and_then (order a c) z ≢ second_less
  then_transitive a b c following h k =
      let first : order a b ≢ second_less = λ e. h (rw e) in
      let second : order b c ≢ second_less = λ e. k (rw e) in
      then_not_above (order a c) (l.transitive a b c first second)
      (λ e.
      let between = between_equals a b c first second e in
      following (rw between.0 at h) (rw between.1 at k))

  -- by a key, and with another order to follow
  by_key : {B : Type 0} (key : B → A) → Lawful (λ a b. order (key a) (key b))
  by_key key = record {
    other_way = λ a b. l.other_way (key a) (key b);
    transitive = λ a b c. l.transitive (key a) (key b) (key c);
  }

  and_then_lem : {next : A → A → Order} → Lawful next → Lawful (λ a b. and_then (order a b) (next a b))
  and_then_lem {next} n = record {
    other_way = λ a b. then_other_way a b (next a b) (next b a) (n.other_way a b);
    transitive = λ a b c. then_transitive a b c (n.transitive a b c);
  }

-- Numbers, and records by four of them.
not_above_at_most : (a b : ℕ) → by_number a b ≢ second_less → a ≤ b
not_above_at_most a b h =
    by_order a b (λ less. omega arith) (λ same. omega arith) (λ more. absurd (h (says_more a b more)))

above_more : (a b : ℕ) → by_number a b ≡ second_less → b < a
above_more a b e =
    by_order a b (λ less. never (cc (says_less a b less))) (λ same. never (cc (says_equal a b same))) (λ more. more)

number_lawful : Lawful by_number
number_lawful = record {
  other_way = λ a b.
      by_order a b
      (λ less. says_more b a less ∙ ap turned (sym (says_less a b less)))
      (λ same. says_equal b a (sym same) ∙ ap turned (sym (says_equal a b same)))
      (λ more. says_less b a more ∙ ap turned (sym (says_more a b more)));
  transitive = λ a b c h k e. omega (arith, not_above_at_most a b h, not_above_at_most b c k, above_more a c e);
}

record_lawful : Lawful by_record
unfolding by_record
record_lawful =
    and_then_lem (by_key number_lawful (λ (r : MoveRecord). r.from))
    (and_then_lem (by_key number_lawful (λ (r : MoveRecord). r.target))
    (and_then_lem (by_key number_lawful (λ (r : MoveRecord). r.time))
    (by_key number_lawful (λ (r : MoveRecord). r.limit))))

-- Lists of records.
records_turned : (rs ss : List MoveRecord) → by_records ss rs ≡ turned (by_records rs ss)
unfolding by_records
records_turned [] [] = refl
records_turned [] (s ∷ ss) = refl
records_turned (r ∷ rs) [] = refl
records_turned (r ∷ rs) (s ∷ ss) =
    then_other_way record_lawful r s (by_records rs ss) (by_records ss rs) (records_turned rs ss)

records_transitive : (rs ss ts : List MoveRecord) → by_records rs ss ≢ second_less → by_records ss ts ≢ second_less
    → by_records rs ts ≢ second_less
unfolding by_records
records_transitive [] ss [] h k = λ e. never (cc)
records_transitive [] ss (t ∷ ts) h k = λ e. never (cc)
records_transitive (r ∷ rs) [] ts h k = absurd (h refl)
records_transitive (r ∷ rs) (s ∷ ss) [] h k = absurd (k refl)
records_transitive (r ∷ rs) (s ∷ ss) (t ∷ ts) h k =
    then_transitive record_lawful r s t (records_transitive rs ss ts) h k

records_lawful : Lawful by_records
records_lawful = record { other_way = records_turned; transitive = records_transitive }

map_lawful : Lawful by_map
unfolding by_map
map_lawful = and_then_lem (by_key number_lawful station_count) (by_key records_lawful records_of)

pub order_total : TotalOrder
order_total = record {
  total = λ a b. rw (map_lawful.other_way a b) (either_way (by_map a b));
  transitive = map_lawful.transitive;
  antisymmetric = λ a b h k. neither_less (by_map a b) h (rw (map_lawful.other_way a b) at k);
  other_way = map_lawful.other_way;
}
