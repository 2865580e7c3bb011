-- Records taken one by one: what it says of a record that it is taken, what the memory is then, and what taking keeps.
-- By induction over the records, with the cases of whether the first of them is taken.
use Rattle.common.proofs.Ground.{◌≡◌, ◌≢◌, refl, ap, ◌∙◌, Bool, true, false, ◌&&◌, ⊎_elim}
use Rattle.common.proofs.Ground.{List, [], ◌∷◌, ℕ, suc, ◌+◌, ◌*◌, ◌≤◌, ◌<◌, arith, length, min, get_or, set}
use Rattle.common.proofs.Ground.{length-replicate}
use Rattle.common.proofs.Ground.{length-set, get_or-set_same, get_or-set_other, ltb, eqb, lt-ltb, eq-eqb, ne_eqb}
use Rattle.common.proofs.Ground.{ltb-true, eqb-true}
use Rattle.std.specs.Prelude.{Option, Some, None}
use Rattle.common.specs.Pick.{pick}
use Rattle.common.proofs.Cases.{by_pick, never}
use Rattle.move_record.specs.declared.MoveRecord.{MoveRecord}
use Rattle.move_record.specs.Records.{no_record}
use Rattle.roundtrip.specs.Written.{is_move, is_above}
use Rattle.roundtrip.proofs.Order.{is_sound, is_above_lem}
use Rattle.writing.specs.declared.taking.Memory.{Memory}
use Rattle.common.proofs.Ground.{dite, dec_lt, take, get_or-replicate, get_or-eq_default, get_or-take, length-take}
use Rattle.roundtrip.proofs.Fit.{AllFit}
use Rattle.writing.specs.Taking.{Fits}
use Rattle.writing.specs.Taking.{empty, bytes_of, width_for, above_latest, is_next, with_record, take_of}
use Rattle.writing.specs.Taking.{taken, taken_all}

-- Where a map can have so many stations and all records before it were taken, the record's own rule and the latest
-- record decide.
pub next_decides : (size : ℕ) (m : Memory) (i : ℕ) (r : MoveRecord) → size ≤ 2048 → m.count ≡ i
    → is_next size m i r ≡ (is_move size r && above_latest m.latest r)
next_decides size m i r most all =
    let few : size < 2049 = omega arith in rw (lt-ltb size 2049 few, eq-eqb m.count i all)

-- tests that were passed together
both : (a b : Bool) → a && b ≡ true → (a ≡ true) × (b ≡ true)
both true b e = (refl, e)
both false b e = never (cc)

-- What it says of a record that it is taken.
pub record Next (size : ℕ) (m : Memory) (i : ℕ) (r : MoveRecord) : Type 0 where
  pub stations : size ≤ 2048
  pub all_before : m.count ≡ i
  pub from_below : r.from < size
  pub target_below : r.target < size
  pub above : above_latest m.latest r ≡ true

pub next_says : (size : ℕ) (m : Memory) (i : ℕ) (r : MoveRecord) → is_next size m i r ≡ true → Next size m i r
next_says size m i r e =
    let parts = both (ltb size 2049 && eqb m.count i) (is_move size r && above_latest m.latest r) e in
    let room = both (ltb size 2049) (eqb m.count i) parts.0 in
    let rule = both (is_move size r) (above_latest m.latest r) parts.1 in
    let sound = is_sound size r rule.0 in
    record {
      stations = omega (arith, ltb-true size 2049 room.0);
      all_before = eqb-true m.count i room.1;
      from_below = sound.from_below;
      target_below = sound.target_below;
      above = rule.1;
    }

-- The memory with a record more.
module _ (m : Memory) (i : ℕ) (r : MoveRecord) where
  pub records_length : length (with_record m i r).records ≡ length m.records
  records_length =
      by_pick (λ l. length l ≡ length m.records) (ltb i 12240) (λ low. length-set m.records i r) (λ high. refl)

  pub bytes_length : length (with_record m i r).bytes ≡ length m.bytes
  bytes_length = length-set m.bytes r.from _

  -- the records before it stay
  pub record_before : (k : ℕ) → k < i
      → get_or (with_record m i r).records k no_record ≡ get_or m.records k no_record
  record_before k before =
      by_pick (λ l. get_or l k no_record ≡ get_or m.records k no_record) (ltb i 12240)
      (λ low. get_or-set_other m.records i k r no_record (omega arith)) (λ high. refl)

  -- the record itself, as far as records are listed
  pub record_here : i < 12240 → i < length m.records → get_or (with_record m i r).records i no_record ≡ r
  record_here low inside =
      ap (λ b. get_or (pick b (set m.records i r) m.records) i no_record) (lt-ltb i 12240 low) ∙
      get_or-set_same m.records i r no_record inside

  -- the bytes of its own station, and those of another
  pub bytes_here : r.from < length m.bytes
      → bytes_of (with_record m i r).bytes r.from ≡ min (bytes_of m.bytes r.from + width_for r) 65535
  bytes_here inside = get_or-set_same m.bytes r.from _ 0 inside

  pub bytes_other : (u : ℕ) → r.from ≢ u → bytes_of (with_record m i r).bytes u ≡ bytes_of m.bytes u
  bytes_other u other = get_or-set_other m.bytes r.from u _ 0 (λ e. other (omega arith))

-- One record.
module _ (size : ℕ) (m : Memory) (i : ℕ) (r : MoveRecord) where
  pub take_next : is_next size m i r ≡ true → take_of size m i r ≡ with_record m i r
  unfolding take_of
  take_next e = ap (λ b. pick b (with_record m i r) m) e

  pub take_other : is_next size m i r ≡ false → take_of size m i r ≡ m
  unfolding take_of
  take_other e = ap (λ b. pick b (with_record m i r) m) e

-- Records, by whether the first of them is taken.
module _ (size : ℕ) where
  pub taken_next : (m : Memory) (i : ℕ) (r : MoveRecord) (rs : List MoveRecord) → is_next size m i r ≡ true
      → taken size m i (r ∷ rs) ≡ taken size (with_record m i r) (suc i) rs
  unfolding taken
  taken_next m i r rs e = ap (λ n. taken size n (suc i) rs) (take_next size m i r e)

  -- once a record was not taken, none is
  pub taken_none : (m : Memory) (i : ℕ) (rs : List MoveRecord) → m.count < i → taken size m i rs ≡ m
  unfolding taken
  taken_none m i [] behind = refl
  taken_none m i (r ∷ rs) behind =
      ap (λ n. taken size n (suc i) rs) (take_other size m i r (not_next (ltb size 2049)
      (is_move size r && above_latest m.latest r) (ne_eqb m.count i (omega arith)))) ∙
      taken_none m (suc i) rs (omega arith)
    where
      not_next : (a c : Bool) {b : Bool} → b ≡ false → (a && b) && c ≡ false
      not_next true c e = rw e
      not_next false c e = refl

  pub taken_other : (m : Memory) (i : ℕ) (r : MoveRecord) (rs : List MoveRecord) → m.count ≡ i
      → is_next size m i r ≡ false → taken size m i (r ∷ rs) ≡ m
  unfolding taken
  taken_other m i r rs all e =
      ap (λ n. taken size n (suc i) rs) (take_other size m i r e) ∙ taken_none m (suc i) rs (omega arith)

  -- What holds of a memory and of each with a record more holds of the last.
  pub taken_keeps : (Holds : Memory → Type 0)
      → ((m : Memory) (i : ℕ) (r : MoveRecord) → Next size m i r → Holds m → Holds (with_record m i r))
      → (m : Memory) (i : ℕ) (rs : List MoveRecord) → Holds m → Holds (taken size m i rs)
  unfolding taken take_of
  taken_keeps Holds more m i [] h = h
  taken_keeps Holds more m i (r ∷ rs) h =
      taken_keeps Holds more (take_of size m i r) (suc i) rs
      (by_pick Holds (is_next size m i r) (λ next. more m i r (next_says size m i r next) h) (λ other. h))

  pub taken_length : (m : Memory) (i : ℕ) (rs : List MoveRecord) → length (taken size m i rs).records ≡ length m.records
  taken_length m i rs =
      taken_keeps (λ n. length n.records ≡ length m.records) (λ n k r next e. records_length n k r ∙ e) m i rs refl

-- (from, target) of the records rise below 2048, so that there are at most so many pairs of them.
abbrev Below : Option MoveRecord → ℕ → Type 0
Below None count = count ≡ 0
Below (Some r) count = (r.from < 2048) × (r.target < 2048) × (count ≤ 2048 * r.from + r.target + 1)

above_number : (before r : MoveRecord) → before.target < 2048 → is_above before r ≡ true
    → 2048 * before.from + before.target < 2048 * r.from + r.target
above_number before r fits e =
    ⊎_elim (λ more. omega arith) (λ same. omega arith) (is_above_lem before r e)

below_more : (size : ℕ) (m : Memory) (i : ℕ) (r : MoveRecord) → Next size m i r → Below m.latest m.count
    → Below (Some r) (suc i)
below_more size m i r next below = by_latest m.latest next.above below
  where
    by_latest : (latest : Option MoveRecord) → above_latest latest r ≡ true → Below latest m.count
        → Below (Some r) (suc i)
    by_latest None e b = (
      omega (arith, next.from_below, next.stations),
      omega (arith, next.target_below, next.stations),
      omega (arith, next.all_before),
    )
    by_latest (Some before) e b = (
      omega (arith, next.from_below, next.stations),
      omega (arith, next.target_below, next.stations),
      omega (arith, above_number before r b.1 e, b.2, next.all_before),
    )

below_few : (latest : Option MoveRecord) (count : ℕ) → Below latest count → count < 4294967296
below_few None count b = omega arith
below_few (Some r) count b = omega (arith, b.0, b.1, b.2)

pub taken_few : (size : ℕ) (records : List MoveRecord) → (taken_all size records).count < 4294967296
taken_few size records =
    below_few _ _ (taken_keeps size (λ m. Below m.latest m.count) (below_more size) empty 0 records refl)

-- The tables of the empty memory.
pub empty_records : length empty.records ≡ 12240
empty_records = length-replicate {A = MoveRecord} 12240 no_record

pub empty_bytes : length empty.bytes ≡ 2048
empty_bytes = length-replicate {A = ℕ} 2048 0

-- Where nothing is listed, times and limits fit.
pub empty_fits : Fits empty.records
empty_fits k =
    dite (dec_lt k 12240)
    (λ inside. rw (get_or-replicate 12240 k no_record no_record inside) (omega arith, omega arith))
    (λ past. rw (get_or-eq_default empty.records no_record {n = k} (omega (arith, empty_records))) (omega arith, omega arith))

-- Where they fit in a list, they fit at its front.
pub front_fits : (records : List MoveRecord) (count : ℕ) → Fits records → AllFit (take count records)
front_fits records count fits k inside =
    rw (get_or-take count records k no_record (omega (arith, length-take count records))) (fits k)
