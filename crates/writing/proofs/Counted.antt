-- How many records are taken, and what is kept of them where all are: as many as come before the first fault of 19, and
-- then the records themselves and the bytes that the moves of each station need. By induction over the records.
use Rattle.common.proofs.Ground.{◌≡◌, refl, ap, ◌∙◌, subst, Bool, true, false, ◌&&◌, dite, List, [], ◌∷◌, ℕ}
use Rattle.common.proofs.Ground.{suc, ◌+◌, ◌/◌, ◌%◌, ◌≤◌, ◌<◌, min, arith, ℕ_discrete, length, get_or, take, drop}
use Rattle.common.proofs.Ground.{drop-cons, eqb, eq-eqb, ne_eqb, get_or-replicate}
use Rattle.std.specs.Prelude.{Some}
use Rattle.common.specs.Pick.{pick}
use Rattle.commands.specs.Commands.{length_of}
use Rattle.page.specs.Good.{spell_move, spell_moves}
use Rattle.move_record.specs.declared.MoveRecord.{MoveRecord}
use Rattle.move_record.specs.Records.{no_record}
use Rattle.roundtrip.specs.Written.{move_of, moves_for, is_move, is_above, rising_after, rising}
use Rattle.roundtrip.proofs.Few.{bytes_for}
use Rattle.writing.specs.declared.taking.Memory.{Memory}
use Rattle.writing.specs.Taking.{empty, bytes_of, width_for, above_latest, is_next, with_record, taken}
use Rattle.writing.specs.Taking.{taken_all}
use Rattle.writing.proofs.Taken.{Next, next_decides, records_length, bytes_length, record_before, record_here}
use Rattle.writing.proofs.Taken.{bytes_here}
use Rattle.writing.proofs.Taken.{bytes_other, taken_next, taken_other, taken_keeps, taken_length, empty_records}
use Rattle.writing.proofs.Taken.{empty_bytes}

-- Behind the first record: the latest one is known.
count_after : (size : ℕ) (before : MoveRecord) (m : Memory) (i : ℕ) (rs : List MoveRecord) → size ≤ 2048
    → m.count ≡ i → m.latest ≡ Some before → (taken size m i rs).count ≡ i + rising_after size before rs
unfolding taken rising_after
count_after size before m i [] most all latest = omega arith
count_after size before m i (r ∷ rs) most all latest =
    by_test (is_move size r && is_above before r) refl
    (count_after size r (with_record m i r) (suc i) rs most refl refl)
  where
    decides : is_next size m i r ≡ (is_move size r && is_above before r)
    decides = next_decides size m i r most all ∙ ap (λ o. is_move size r && above_latest o r) latest

    by_test : (b : Bool) → is_move size r && is_above before r ≡ b
        → (taken size (with_record m i r) (suc i) rs).count ≡ suc i + rising_after size r rs
        → (taken size m i (r ∷ rs)).count ≡ i + pick b (suc (rising_after size r rs)) 0
    by_test true e onward =
        ap (λ n. n.count) (taken_next size m i r rs (decides ∙ e)) ∙ onward ∙ omega arith
    by_test false e onward =
        ap (λ n. n.count) (taken_other size m i r rs all (decides ∙ e)) ∙ omega arith

-- All of a list: as many are taken as rise.
pub taken-rising : (size : ℕ) (records : List MoveRecord) → size ≤ 2048
    → (taken_all size records).count ≡ rising size records
unfolding taken rising
taken-rising size [] most = refl
taken-rising size (r ∷ rs) most =
    by_test (is_move size r) refl
  where
    decides : is_next size empty 0 r ≡ is_move size r
    decides = next_decides size empty 0 r most refl ∙ and-true (is_move size r)
      where
        and-true : (b : Bool) → b && true ≡ b
        and-true true = refl
        and-true false = refl

    by_test : (b : Bool) → is_move size r ≡ b
        → (taken_all size (r ∷ rs)).count ≡ pick b (suc (rising_after size r rs)) 0
    by_test true e =
        ap (λ n. n.count) (taken_next size empty 0 r rs (decides ∙ e)) ∙
        count_after size r (with_record empty 0 r) 1 rs most refl refl ∙ omega arith
    by_test false e = ap (λ n. n.count) (taken_other size empty 0 r rs refl (decides ∙ e))

-- Where all are taken, so is the first, and all behind it.
module _ (size : ℕ) (m : Memory) (i : ℕ) (r : MoveRecord) (rs : List MoveRecord) (all : m.count ≡ i)
    (end : (taken size m i (r ∷ rs)).count ≡ i + length (r ∷ rs)) where
  first_taken : is_next size m i r ≡ true
  first_taken = by_test (is_next size m i r) refl
    where
      by_test : (b : Bool) → is_next size m i r ≡ b → b ≡ true
      by_test true e = refl
      by_test false e = absurd (omega (arith, ap (λ n. n.count) (taken_other size m i r rs all e)))

  others_taken : (taken size (with_record m i r) (suc i) rs).count ≡ suc i + length rs
  others_taken = omega (arith, ap (λ n. n.count) (taken_next size m i r rs first_taken))

-- A record that is kept stays.
record_stays : (size : ℕ) (m : Memory) (i : ℕ) (rs : List MoveRecord) (k : ℕ) → k < m.count
    → get_or (taken size m i rs).records k no_record ≡ get_or m.records k no_record
record_stays size m i rs k before =
    let Holds : Memory → Type 0 = λ n. (k < n.count) × (get_or n.records k no_record ≡ get_or m.records k no_record) in
    let more : (n : Memory) (j : ℕ) (r : MoveRecord) → Next size n j r → Holds n
    → Holds (with_record n j r) = λ n j r next h.
    let earlier : k < j = omega (arith, next.all_before, h.0) in
    (omega arith, record_before n j r k earlier ∙ h.1) in
    (taken_keeps size Holds more m i rs (before, refl)).1

kept_again : (size : ℕ) (m : Memory) (i : ℕ) (rs : List MoveRecord) → length m.records ≡ 12240 → m.count ≡ i
    → i + length rs ≤ 12240 → (taken size m i rs).count ≡ i + length rs
    → take (length rs) (drop i (taken size m i rs).records) ≡ rs
unfolding taken
kept_again size m i [] memory all few end = refl
kept_again size m i (r ∷ rs) memory all few end =
    let next = with_record m i r in
    let same = taken_next size m i r rs (first_taken size m i r rs all end) in
    let stays = record_stays size next (suc i) rs i (omega arith) in
    let is = record_here m i r (omega arith) (omega arith) in
    let long : length next.records ≡ 12240 = records_length m i r ∙ memory in
    let rest = kept_again size next (suc i) rs long refl (omega arith) (others_taken size m i r rs all end) in
    let last = (taken size next (suc i) rs).records in
    let inside : i < length last = omega (arith, taken_length size next (suc i) rs) in
    ap (λ n. take (suc (length rs)) (drop i n.records)) same ∙
    ap (take (suc (length rs))) (drop-cons last i no_record inside) ∙
    ap (λ x. x ∷ take (length rs) (drop (suc i) last)) (stays ∙ is) ∙
    ap (λ l. r ∷ l) rest

-- All of a list: the records are kept, if a map can have so many.
pub taken_kept : (size : ℕ) (records : List MoveRecord) → (taken_all size records).count ≡ length records
    → length records ≤ 12240
    → take (taken_all size records).count (taken_all size records).records ≡ records
taken_kept size records end few =
    ap (λ n. take n (taken_all size records).records) end ∙
    kept_again size empty 0 records empty_records refl (omega arith) (omega arith)

-- The bytes of a move.
move_bytes : (r : MoveRecord) (rest : List ℕ) → length (spell_move (move_of r) rest) ≡ width_for r + length rest
move_bytes r rest = by_test (eqb r.limit 0)
  where
    by_test : (none : Bool)
        → length (pick none 2 3 ∷ 0 ∷ 0 ∷ 0 ∷ 0 ∷ pick none rest (r.limit % 256 ∷ r.limit / 256 ∷ rest))
        ≡ length_of (pick none 2 3) + length rest
    by_test true = omega arith
    by_test false = omega arith

added : (sum more rest : ℕ) {now all : ℕ} → now ≡ min (sum + more) 65535 → all ≡ more + rest
    → min 512 (now + rest) ≡ min 512 (sum + all)
added sum more rest e f = omega arith

bytes_after : (size u : ℕ) (m : Memory) (i : ℕ) (rs : List MoveRecord) → u < 2048 → length m.bytes ≡ 2048
    → m.count ≡ i → (taken size m i rs).count ≡ i + length rs
    → min 512 (bytes_of (taken size m i rs).bytes u) ≡ min 512 (bytes_of m.bytes u + bytes_for rs u)
unfolding taken moves_for spell_moves
bytes_after size u m i [] station memory all end = omega arith
bytes_after size u m i (r ∷ rs) station memory all end =
    let next = with_record m i r in
    let long : length next.bytes ≡ 2048 = bytes_length m i r ∙ memory in
    let rest = bytes_after size u next (suc i) rs station long refl (others_taken size m i r rs all end) in
    ap (λ n. min 512 (bytes_of n.bytes u)) (taken_next size m i r rs (first_taken size m i r rs all end)) ∙ rest ∙
    dite (ℕ_discrete r.from u)
    (λ here.
    let moves : bytes_for (r ∷ rs) u ≡ width_for r + bytes_for rs u =
    rw (eq-eqb r.from u here) (move_bytes r (spell_moves (moves_for rs u) [])) in
    let bytes : bytes_of next.bytes u ≡ min (bytes_of m.bytes u + width_for r) 65535 =
    subst (λ v. bytes_of next.bytes v ≡ min (bytes_of m.bytes v + width_for r) 65535) here
    (bytes_here m i r (omega arith)) in
    added (bytes_of m.bytes u) (width_for r) (bytes_for rs u) bytes moves)
    (λ other. rw (ne_eqb r.from u other, bytes_other m i r u other))

pub taken_bytes : (size : ℕ) (records : List MoveRecord) (u : ℕ) → u < 2048
    → (taken_all size records).count ≡ length records
    → min 512 (bytes_of (taken_all size records).bytes u) ≡ min 512 (bytes_for records u)
taken_bytes size records u station end =
    bytes_after size u empty 0 records station empty_bytes refl (omega arith) ∙
    ap (λ b. min 512 (b + bytes_for records u)) (get_or-replicate {A = ℕ} 2048 u 0 0 station) ∙
    omega arith
