-- A window of a table, written: how long the table is then, what is read back, and that a lent window, which comes back
-- between the entries before and behind it, is the window written. And an entry of a table.
use Rattle.common.proofs.Ground.{◌≡◌, refl, ap, sym, ◌∙◌, List, [], ◌∷◌, ◌++◌, append_assoc, ℕ, zero, suc, ◌+◌}
use Rattle.common.proofs.Ground.{take, drop, length-append, length-drop, take_at, drop_at, drop-drop}
use Rattle.common.proofs.Ground.{◌≤◌, ◌<◌, arith, length, get_or, length-take-le}
use Rattle.common.specs.Window.{placed}

module _ (table : List ℕ) (from : ℕ) (entries : List ℕ) where
  pub placed-length : from + length entries ≤ length table → length (placed table from entries) ≡ length table
  placed-length h =
      simp (length-append, length-drop) (omega (arith, length-take-le from table (omega arith)))

  -- what is read back
  pub placed_window : from ≤ length table → take (length entries) (drop from (placed table from entries)) ≡ entries
  placed_window h =
      let behind = drop (from + length entries) table in
      ap (λ l. take (length entries) (drop from l)) (append_assoc (take from table) entries behind) ∙
      ap (take (length entries)) (drop_at (take from table) (entries ++ behind) from (length-take-le from table h)) ∙
      take_at entries behind (length entries) refl

  -- What comes back where a window of so many entries was lent. A front is the window from 0 on.
  pub lent_window : (size : ℕ) → length entries ≡ size
      → take from table ++ (entries ++ drop size (drop from table)) ≡ placed table from entries
  lent_window size e =
      ap (λ l. take from table ++ (entries ++ l)) (drop-drop size from table) ∙
      ap (λ n. take from table ++ (entries ++ drop (from + n) table)) (sym e) ∙
      sym (append_assoc (take from table) entries (drop (from + length entries) table))

pub lent_front : (table entries : List ℕ) (size : ℕ) → length entries ≡ size
    → entries ++ drop size table ≡ placed table 0 entries
lent_front table entries size e = lent_window table 0 entries size e

-- An entry that is there does not depend on what is read past the end.
pub any-default : (l : List ℕ) (i d e : ℕ) → i < length l → get_or l i d ≡ get_or l i e
any-default [] i d e h = absurd (omega arith)
any-default (x ∷ l) zero d e h = refl
any-default (x ∷ l) (suc i) d e h = any-default l i d e (omega arith)
