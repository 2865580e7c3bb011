-- The run of a station's records at the front of those that are left. Where the records are by rising station, and none
-- is left of a lower one, the run has all moves of the station, and behind it the records of higher stations are left.
-- By induction over the records, with the cases of whether a record is the station's.
use Rattle.common.proofs.Ground.{◌≡◌, ◌≢◌, refl, ap, sym, ◌∙◌, true, false, List, [], ◌∷◌, ℕ, suc, ◌+◌, ◌<◌}
use Rattle.common.proofs.Ground.{◌≤◌, ◌&&◌, arith, dite, ℕ_discrete, add-one, length, drop, eq-eqb, ne_eqb, Bool}
use Rattle.common.proofs.Ground.{true≢false, dec_lt, le-ltb, get_or, drop-cons, drop_of_length-le}
use Rattle.common.specs.Pick.{pick}
use Rattle.move_record.specs.declared.MoveRecord.{MoveRecord}
use Rattle.move_record.specs.Records.{no_record}
use Rattle.roundtrip.specs.Written.{move_of, moves_for, rising, rising_after, is_move, is_above}
use Rattle.imaging.specs.Runs.{run_of, ByStation}

-- The run of the records from index k on, by the first of them.
module _ (records : List MoveRecord) (k u : ℕ) where
  pub run_own : k < length records → (get_or records k no_record).from ≡ u
      → run_of (drop k records) u ≡ move_of (get_or records k no_record) ∷ run_of (drop (k + 1) records) u
  unfolding run_of
  run_own h own = rw (add-one k, drop-cons records k no_record h, eq-eqb (get_or records k no_record).from u own)

  pub run_other : k < length records → (get_or records k no_record).from ≢ u → run_of (drop k records) u ≡ []
  unfolding run_of
  run_other h other = rw (drop-cons records k no_record h, ne_eqb (get_or records k no_record).from u other)

  pub run_none : length records ≤ k → run_of (drop k records) u ≡ []
  unfolding run_of
  run_none h = rw (drop_of_length-le records h)

-- Of any records.
pub run_length : (records : List MoveRecord) (u : ℕ) → length (run_of records u) ≤ length records
unfolding run_of
run_length [] u = omega arith
run_length (r ∷ rs) u =
    dite (ℕ_discrete r.from u)
    (λ own. rw (eq-eqb r.from u own) (omega (arith, run_length rs u)))
    (λ other. rw (ne_eqb r.from u other) (omega arith))

none_lower : (records : List MoveRecord) (least u : ℕ) → ByStation least records → u < least → moves_for records u ≡ []
unfolding moves_for
none_lower [] least u b h = refl
none_lower (r ∷ rs) least u b h =
    let other : r.from ≢ u = λ same. omega (arith, b.0) in
    rw (ne_eqb r.from u other) (none_lower rs r.from u b.1 (omega (arith, b.0)))

run_all : (records : List MoveRecord) (u : ℕ) → ByStation u records → moves_for records u ≡ run_of records u
unfolding moves_for run_of
run_all [] u b = refl
run_all (r ∷ rs) u b =
    dite (ℕ_discrete r.from u)
    (λ own. rw (eq-eqb r.from u own) (ap (λ l. move_of r ∷ l) (run_all rs u (rw own at b.1))))
    (λ other. rw (ne_eqb r.from u other) (none_lower rs r.from u b.1 (omega (arith, b.0))))

run_behind : (records : List MoveRecord) (u : ℕ) → ByStation u records
    → ByStation (suc u) (drop (length (run_of records u)) records)
unfolding run_of
run_behind [] u b = tt
run_behind (r ∷ rs) u b =
    dite (ℕ_discrete r.from u)
    (λ own. rw (eq-eqb r.from u own) (run_behind rs u (rw own at b.1)))
    (λ other. rw (ne_eqb r.from u other) (omega (arith, b.0), b.1))

run_later : (records : List MoveRecord) (u v : ℕ) → u < v
    → moves_for (drop (length (run_of records u)) records) v ≡ moves_for records v
unfolding run_of moves_for
run_later [] u v h = refl
run_later (r ∷ rs) u v h =
    dite (ℕ_discrete r.from u)
    (λ own.
    let other : r.from ≢ v = λ same. omega arith in
    rw (eq-eqb r.from u own, ne_eqb r.from v other) (run_later rs u v h))
    (λ other. rw (ne_eqb r.from u other))

-- Of the records those are left that station u and the stations behind it have, by rising station.
pub record LeftFor (records left : List MoveRecord) (u : ℕ) : Type 0 where
  pub by_station : ByStation u left
  pub all_moves : (v : ℕ) → u ≤ v → moves_for left v ≡ moves_for records v

module _ (records : List MoveRecord) where
  pub left_all : ByStation 0 records → LeftFor records records 0
  left_all b = record { by_station = b; all_moves = λ v h. refl }

  module _ (left : List MoveRecord) (u : ℕ) (l : LeftFor records left u) where
    pub left_run : run_of left u ≡ moves_for records u
    left_run = sym (run_all left u l.by_station) ∙ l.all_moves u (omega arith)

    pub left_next : LeftFor records (drop (length (run_of left u)) left) (suc u)
    left_next = record {
      by_station = run_behind left u l.by_station;
      all_moves = λ v h. run_later left u v (omega arith) ∙ l.all_moves v (omega arith);
    }

-- Records that rise by (from, target) are by rising station.
both_second : (first second : Bool) → first && second ≡ true → second ≡ true
both_second true second e = e
both_second false second e = absurd (true≢false (sym e))

above_later : (r s : MoveRecord) → is_above r s ≡ true → r.from ≤ s.from
above_later r s above =
    dite (dec_lt s.from r.from)
    (λ less.
    let other : r.from ≢ s.from = λ same. omega arith in
    let no : false ≡ true = rw (le-ltb r.from s.from (omega arith), ne_eqb r.from s.from other) at above in
    absurd (true≢false (sym no)))
    (λ not-less. omega arith)

rising_after_lem : (size : ℕ) (r : MoveRecord) (rs : List MoveRecord) → rising_after size r rs ≡ length rs
    → ByStation r.from rs
unfolding rising_after
rising_after_lem size r [] e = tt
rising_after_lem size r (s ∷ rs) e = by_test (is_move size s && is_above r s) refl e (rising_after_lem size s rs)
  where
    by_test : (good : Bool) → is_move size s && is_above r s ≡ good
        → pick good (suc (rising_after size s rs)) 0 ≡ suc (length rs)
        → (rising_after size s rs ≡ length rs → ByStation s.from rs) → ByStation r.from (s ∷ rs)
    by_test true good e rest = (above_later r s (both_second (is_move size s) (is_above r s) good), rest (omega arith))
    by_test false good e rest = absurd (omega arith)

pub rising_by_station : (size : ℕ) (records : List MoveRecord) → rising size records ≡ length records
    → ByStation 0 records
unfolding rising
rising_by_station size [] e = tt
rising_by_station size (r ∷ rs) e = by_test (is_move size r) e
  where
    by_test : (good : Bool) → pick good (suc (rising_after size r rs)) 0 ≡ suc (length rs) → ByStation 0 (r ∷ rs)
    by_test true e = (omega arith, rising_after_lem size r rs (omega arith))
    by_test false e = absurd (omega arith)
