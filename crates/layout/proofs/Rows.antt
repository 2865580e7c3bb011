-- What a write to `layout` does to the rows: one write changes one entry, so a row stays that does not have it and
-- whose begin and end are elsewhere; and a move that is written behind a row makes the row longer by one.
use Rattle.common.proofs.Ground.{◌≡◌, ap, ◌∙◌, dite, List, [], ◌∷◌, ◌++◌, ℕ, suc, ◌+◌, ◌-◌, ◌*◌, ◌≤◌, ◌<◌, arith}
use Rattle.common.proofs.Ground.{dec_lt, length, take, drop, set, length-set, length-drop, get_or-set_same}
use Rattle.common.proofs.Ground.{get_or-set_other, take-set-le, drop-set-lt, drop-set-add, take-suc-set}
use Rattle.layout.specs.Rows.{begin_of, end_of, Laid}

module _ (layout : List ℕ) (i x : ℕ) where
  drop-set : (from : ℕ) → from ≤ i → drop from (set layout i x) ≡ set (drop from layout) (i - from) x
  drop-set from l =
      let e : i ≡ from + (i - from) = omega arith in
      ap (λ (j : ℕ). drop from (set layout j x)) e ∙ drop-set-add from layout (i - from) x

  -- what stands between two indexes stays, if the write is outside
  pub between_kept : (from to : ℕ) → (from ≤ i → to ≤ i)
      → take (to - from) (drop from (set layout i x)) ≡ take (to - from) (drop from layout)
  between_kept from to outside =
      dite (dec_lt i from)
      (λ l. rw drop-set-lt)
      (λ n.
      let k : to - from ≤ i - from = omega (arith, outside (omega arith)) in
      rw (drop-set from (omega arith), take-set-le))

  -- a write behind what stands between two indexes makes it longer by one
  pub between_more : (from : ℕ) → from ≤ i → i < length layout
      → take (i + 1 - from) (drop from (set layout i x)) ≡ take (i - from) (drop from layout) ++ (x ∷ [])
  between_more from l h =
      let count : i + 1 - from ≡ suc (i - from) = omega arith in
      let room : i - from < length (drop from layout) = omega (arith, length-drop from layout) in
      rw (count, drop-set from l, take-suc-set)

  module _ (v : ℕ) where
    pub begin_kept : (v ≡ i → ⊥) → begin_of (set layout i x) v ≡ begin_of layout v
    begin_kept other = get_or-set_other layout i v x 0 other

    pub end_kept : (2048 + v ≡ i → ⊥) → end_of (set layout i x) v ≡ end_of layout v
    end_kept other = get_or-set_other layout i (2048 + v) x 0 other

    -- a write that is neither a station's begin nor its end nor in its row
    pub laid_kept : (p : ℕ) (row : List ℕ) → Laid layout p v row → (v ≡ i → ⊥) → (2048 + v ≡ i → ⊥)
        → (begin_of layout v ≤ i → end_of layout v ≤ i) → Laid (set layout i x) p v row
    laid_kept p row laid other_begin other_end outside = record {
      begins = rw (begin_kept other_begin) laid.begins;
      ordered = rw (begin_kept other_begin, end_kept other_end) laid.ordered;
      ends = rw (end_kept other_end) laid.ends;
      entries =
          rw (begin_kept other_begin, end_kept other_end)
          (between_kept (begin_of layout v) (end_of layout v) outside ∙ laid.entries);
    }

-- A row that stands between two indexes of its page's room is laid out by writing where it begins and where it ends.
module _ (p v from to : ℕ) (row : List ℕ) (station : v < 2048) (low : 4096 + 51 * p ≤ from) (ordered : from ≤ to)
    (high : to ≤ 4096 + 51 * p + 51) where
  pub laid_end : (layout : List ℕ) → length layout ≡ 17152 → begin_of layout v ≡ from
      → take (to - from) (drop from layout) ≡ row → Laid (set layout (2048 + v) to) p v row
  laid_end layout size written stands =
      let begin = begin_kept layout (2048 + v) to v (λ e. omega arith) ∙ written in
      let end = get_or-set_same layout (2048 + v) to 0 (omega arith) in
      record {
        begins = rw begin low;
        ordered = rw (begin, end) ordered;
        ends = rw end high;
        entries = rw (begin, end) (between_kept layout (2048 + v) to from to (λ l. absurd (omega arith)) ∙ stands);
      }

  pub laid_new : (layout : List ℕ) → length layout ≡ 17152 → take (to - from) (drop from layout) ≡ row
      → Laid (set (set layout v from) (2048 + v) to) p v row
  laid_new layout size stands =
      laid_end (set layout v from) (length-set layout v from ∙ size) (get_or-set_same layout v from 0 (omega arith))
      (between_kept layout v from from to (λ l. absurd (omega arith)) ∙ stands)
