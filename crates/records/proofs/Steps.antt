-- One record more that is put or taken, step by step from the front, as the loops go.
use Rattle.common.proofs.Ground.{◌∙◌, ◌≡◌, ap, sym, arith}
use Rattle.common.proofs.Ground.{List, [], ◌∷◌, ◌++◌, ◌+◌, ◌<◌, ◌≤◌, suc, zero, ℕ, add-one, add-suc, suc-add, zero-add}
use Rattle.common.proofs.Ground.{add-zero, get_or, set, take, drop, take-suc, drop-cons, set_at, append_assoc}
use Rattle.common.proofs.Ground.{length-take-le, length}
use Rattle.move_record.specs.declared.MoveRecord.{MoveRecord}
use Rattle.move_record.specs.Records.{no_record}
use Rattle.writing.specs.declared.taking.Memory.{Memory}
use Rattle.writing.specs.Taking.{take_of, taken}

-- The first records put at a list's front, and one more.
pub fill_next : (records list : List MoveRecord) (i : ℕ) → i < length records → length records ≤ length list
    → set (take i records ++ drop i list) i (get_or records i no_record)
    ≡ take (i + 1) records ++ drop (i + 1) list
fill_next records list i inside room =
    let front = take i records in
    let r = get_or records i no_record in
    ap (λ l. set (front ++ l) i r) (drop-cons list i no_record (omega arith)) ∙
    set_at front _ (drop (suc i) list) r i (length-take-le i records (omega arith)) ∙
    sym (append_assoc front (r ∷ []) (drop (suc i) list)) ∙
    ap (λ l. l ++ drop (suc i) list) (sym (take-suc records i no_record inside)) ∙
    rw (add-one i)

-- The records from the front, the first at index k.
taken_from : (size : ℕ) (m : Memory) (k : ℕ) (records : List MoveRecord) (i : ℕ) → i < length records
    → taken size m k (take (suc i) records)
    ≡ take_of size (taken size m k (take i records)) (i + k) (get_or records i no_record)
unfolding taken
taken_from size m k [] i inside = absurd (omega arith)
taken_from size m k (r ∷ rs) zero inside = ap (λ (j : ℕ). take_of size m j r) (sym (zero-add k))
taken_from size m k (r ∷ rs) (suc i) inside =
    let next = take_of size m k r in
    taken_from size next (suc k) rs i (omega arith)
    ∙ ap (λ (j : ℕ). take_of size (taken size next (suc k) (take i rs)) j (get_or rs i no_record))
    (add-suc i k ∙ sym (suc-add i k))

pub taken_next : (size : ℕ) (m : Memory) (records : List MoveRecord) (i : ℕ) → i < length records
    → taken size m 0 (take (i + 1) records) ≡ take_of size (taken size m 0 (take i records)) i (get_or records i no_record)
taken_next size m records i inside =
    ap (λ n. taken size m 0 (take n records)) (add-one i) ∙
    taken_from size m 0 records i inside
    ∙ ap (λ (j : ℕ). take_of size (taken size m 0 (take i records)) j (get_or records i no_record)) (add-zero i)
