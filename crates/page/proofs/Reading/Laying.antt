-- The rows of the stations that have been named so far. The latest station's row has the moves read so far that are
-- open to the strip, and the rest is still to come; the rows of the earlier ones have all their open moves. A row is
-- begun, and a move is laid out, by two writes: one at the row's begin or behind the latest row, in the page's own
-- room, and one at the latest row's end. So no other row is touched. A closed move leaves the end where it was.
use Rattle.common.proofs.Ground.{◌≡◌, refl, ap, sym, ◌∙◌, ◌≢◌, Bool, true, false, ◌⊎◌, inr, ⊎_elim, List, [], ◌∷◌, ◌++◌}
use Rattle.common.proofs.Ground.{map, map-append, append_assoc, append-nil, ℕ, ◌+◌, ◌-◌, ◌*◌, ◌≤◌, ◌<◌, arith, sub_self}
use Rattle.common.proofs.Ground.{length, get_or, take, drop, set, length-set, get_or-set_same}
use Rattle.common.specs.Pick.{pick}
use Rattle.layout.specs.Rows.{entry_of, begin_of, end_of, Laid}
use Rattle.layout.proofs.Rows.{between_kept, between_more, begin_kept, end_kept, laid_kept, laid_end, laid_new}
use Rattle.commands.specs.declared.Move.{Move}
use Rattle.rows.proofs.Behind.{next_bounds}
use Rattle.page.specs.Open.{is_open, open_to}
use Rattle.page.specs.Laying.{row_for, OthersKept}
use Rattle.page.proofs.Open.{open_append}

-- Entry k is in the room of page p, or behind it.
pub record Room (layout : List ℕ) (p k : ℕ) : Type 0 where
  pub size : length layout ≡ 17152
  pub page : p < 256
  pub from : 4096 + 51 * p ≤ k

-- Of a station's moves those before the rest have been read, and the open ones of them are laid out, up to entry k.
pub record Row (strip : ℕ) (layout : List ℕ) (p v k : ℕ) (moves rest : List Move) : Type 0 where
  pub read : List Move
  pub laid : Laid layout p v (row_for strip read)
  pub ends : end_of layout v ≤ k
  pub split : moves ≡ read ++ rest

-- A row with one more move, by whether it is open.
abbrev entries : List Move → List ℕ
entries = map (λ (m : Move). entry_of m.time m.target)

row_for_more : (strip : ℕ) (read : List Move) (m : Move) {test : Bool} → is_open strip m ≡ test
    → row_for strip (read ++ (m ∷ [])) ≡ row_for strip read ++ pick test (entry_of m.time m.target ∷ []) []
unfolding open_to
row_for_more strip read m {test} e =
    ap entries (open_append strip read (m ∷ [])) ∙ map-append _ (open_to strip read) (open_to strip (m ∷ [])) ∙
    ap (λ l. row_for strip read ++ l) (rw e (by_test test))
  where
    by_test : (test : Bool) → entries (pick test (m ∷ []) []) ≡ pick test (entry_of m.time m.target ∷ []) []
    by_test true = refl
    by_test false = refl

-- The two writes: one at entry i, and one at the end of the row of station v.
abbrev pub written : List ℕ → ℕ → ℕ → ℕ → ℕ → List ℕ
written layout i x v end = set (set layout i x) (2048 + v) end

module _ (layout : List ℕ) (i x v end : ℕ) where
  pub length-written : length (written layout i x v end) ≡ length layout
  length-written = length-set (set layout i x) (2048 + v) end ∙ length-set layout i x

  -- the station itself
  pub end_own : v < 2048 → length layout ≡ 17152 → end_of (written layout i x v end) v ≡ end
  end_own station size = get_or-set_same (set layout i x) (2048 + v) end 0 (omega (arith, length-set layout i x))

  -- another, whose begin, end and row are not at entry i
  module _ (u : ℕ) (other : u ≢ v) (off : 2048 + u ≢ i) where
    end_other : end_of (written layout i x v end) u ≡ end_of layout u
    end_other = end_kept (set layout i x) (2048 + v) end u (λ e. other (omega arith)) ∙ end_kept layout i x u off

    laid_other : (q : ℕ) (row : List ℕ) → u < 2048 → v < 2048 → u ≢ i
        → (begin_of layout u ≤ i → end_of layout u ≤ i) → Laid layout q u row → Laid (written layout i x v end) q u row
    laid_other q row h station begins outside l =
        let once = laid_kept layout i x u q row l begins off outside in
        laid_kept (set layout i x) (2048 + v) end u q row once (omega arith) (omega arith) (λ b. absurd (omega arith))

module _ (strip : ℕ) {layout : List ℕ} {p k : ℕ} (room : Room layout p k) (v : ℕ) (station : v < 2048) where
  pub row_begun : (moves : List Move) → k ≤ 4096 + 51 * p + 51 → Row strip (written layout v k v k) p v k moves moves
  unfolding open_to
  row_begun moves high = record {
    read = [];
    laid = laid_new p v k k [] station room.from (omega arith) high layout room.size (rw (sub_self k));
    ends = omega (arith, end_own layout v k v k station room.size);
    split = refl;
  }

  -- the row with one more move read, by whether it is open: it ends behind the move's entry, or before it
  row_more : (m : Move) {moves rest : List Move} {test : Bool} → is_open strip m ≡ test → k < 4096 + 51 * p + 51
      → end_of layout v ≡ k → Row strip layout p v k moves (m ∷ rest)
      → let next = pick test (k + 1) k in
      Row strip (written layout k (entry_of m.time m.target) v next) p v next moves rest
  row_more m {rest = rest} {test} is inside latest r =
      let from = begin_of layout v in
      let entry = entry_of m.time m.target in
      let next = pick test (k + 1) k in
      let (onward, at_most) = next_bounds k test in
      let ordered : from ≤ k = omega (arith, r.laid.ordered) in
      let so_far : take (k - from) (drop from layout) ≡ row_for strip r.read = rw latest at r.laid.entries in
      let stands : take (next - from) (drop from (set layout k entry)) ≡ row_for strip (r.read ++ (m ∷ [])) =
      by_test test from ordered so_far ∙ sym (row_for_more strip r.read m is) in
      record {
        read = r.read ++ (m ∷ []);
        laid = laid_end p v from next (row_for strip (r.read ++ (m ∷ []))) station r.laid.begins (omega arith)
            (omega arith) (set layout k entry) (length-set layout k entry ∙ room.size)
            (begin_kept layout k entry v (omega arith)) stands;
        ends = omega (arith, end_own layout k entry v next station room.size);
        split = r.split ∙ sym (append_assoc r.read (m ∷ []) rest);
      }
    where
      by_test : (test : Bool) (from : ℕ) → from ≤ k → {row : List ℕ} → take (k - from) (drop from layout) ≡ row
          → let entry = entry_of m.time m.target in
          take (pick test (k + 1) k - from) (drop from (set layout k entry)) ≡ row ++ pick test (entry ∷ []) []
      by_test true from l e =
          between_more layout k (entry_of m.time m.target) from l (omega (arith, room.size, room.page)) ∙
          ap (λ row. row ++ (entry_of m.time m.target ∷ [])) e
      by_test false from l {row} e =
          between_kept layout k (entry_of m.time m.target) from k (λ h. omega arith) ∙ e ∙ sym (append-nil row)

  pub row_kept : (i x end : ℕ) → (i ≡ v) ⊎ (i ≡ k) → k ≤ end → {u : ℕ} {moves rest : List Move} → u < 2048 → u ≢ v
      → Row strip layout p u k moves rest → Row strip (written layout i x v end) p u end moves rest
  row_kept i x end place onward {u} h other r =
      let off : (2048 + u ≢ i) × (u ≢ i) × (begin_of layout u ≤ i → end_of layout u ≤ i) =
      ⊎_elim (λ e. omega arith) (λ e. omega arith) place in
      record {
        read = r.read;
        laid = laid_other layout i x v end u other off.0 p (row_for strip r.read) h station off.1 off.2
            r.laid;
        ends = omega (arith, end_other layout i x v end u other off.0);
        split = r.split;
      }

-- The rows of the other pages' stations: what is written is in the page's room, or the begin or the end of one of its
-- stations.
pub others_kept : {directory before layout : List ℕ} {p : ℕ} → length directory ≤ 2048
    → OthersKept directory p before layout → (i x v end : ℕ) → v < length directory → get_or directory v 0 ≡ p
    → (i ≡ v) ⊎ ((4096 + 51 * p ≤ i) × (i < 4096 + 51 * p + 51))
    → OthersKept directory p before (written layout i x v end)
others_kept {directory} {layout = layout} {p} few o i x v end station on_page_lem place =
    let other : (u : ℕ) → get_or directory u 0 ≢ p → u ≢ v = λ u off e. off (ap (λ w. get_or directory w 0) e ∙ on_page_lem) in
    let off : (u : ℕ) → u < length directory → u ≢ v → (2048 + u ≢ i) × (u ≢ i) = λ u h apart.
    ⊎_elim (λ e. omega arith) (λ e. omega arith) place in
    record {
      rows = λ u q row h on apart before_laid.
          let own = other u (λ e. apart (sym on ∙ e)) in
          let laid = o.rows u q row h on apart before_laid in
          laid_other layout i x v end u own (off u h own).0 q row (omega arith) (omega arith) (off u h own).1
          (⊎_elim (λ e. omega arith) (λ e. omega arith) place) laid;
      ends = λ u h apart.
          end_other layout i x v end u (other u apart) (off u h (other u apart)).0 ∙ o.ends u h apart;
    }

-- What a move of station v does to the rows: its own has the move read, the others are kept, and one entry more is used
-- at most.
pub record Passed (strip : ℕ) (directory : List ℕ) (p v : ℕ) (m : Move) (layout : List ℕ) (k : ℕ) (after : List ℕ)
    (next : ℕ) : Type 0 where
  pub size : length after ≡ length layout
  pub onward : k ≤ next
  pub at_most : next ≤ k + 1
  pub own : {moves rest : List Move} → end_of layout v ≡ k → Row strip layout p v k moves (m ∷ rest)
      → (end_of after v ≡ next) × Row strip after p v next moves rest
  pub rows : {u : ℕ} {moves rest : List Move} → u < 2048 → u ≢ v → Row strip layout p u k moves rest
      → Row strip after p u next moves rest
  pub others : {before : List ℕ} → OthersKept directory p before layout → OthersKept directory p before after

pub move_passed : (strip : ℕ) {directory layout : List ℕ} {p k v : ℕ} (m : Move) → length directory ≤ 2048
    → Room layout p k → k < 4096 + 51 * p + 51 → v < length directory → get_or directory v 0 ≡ p
    → let next = pick (is_open strip m) (k + 1) k in
    Passed strip directory p v m layout k (written layout k (entry_of m.time m.target) v next) next
move_passed strip {layout = layout} {k = k} {v} m few room inside station on_page_lem =
    let entry = entry_of m.time m.target in
    let next = pick (is_open strip m) (k + 1) k in
    let (onward, at_most) = next_bounds k (is_open strip m) in
    let small : v < 2048 = omega arith in
    record {
      size = length-written layout k entry v next;
      onward = onward;
      at_most = at_most;
      own = λ ends r. (
        end_own layout k entry v next small room.size,
        row_more strip room v small m refl inside ends r,
      );
      rows = row_kept strip room v small k entry next (inr refl) onward;
      others = λ o. others_kept few o k entry v next station on_page_lem (inr (room.from, inside));
    }
