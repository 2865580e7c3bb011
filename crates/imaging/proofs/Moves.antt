-- The loop over a station's moves: with the moves that are left of the run put behind what is written, the table is as
-- with the whole run put. Each turn takes the first of them, and at the end none is left.
use Rattle.common.proofs.Ground.{◌≡◌, ap, sym, ◌∙◌, List, [], ◌∷◌, ◌++◌, ℕ, ◌+◌, ◌/◌, ◌%◌, ◌≤◌, arith, length}
use Rattle.common.proofs.Ground.{length-append}
use Rattle.common.specs.Window.{placed}
use Rattle.common.proofs.Windows.{placed-length}
use Rattle.commands.specs.declared.Move.{Move}
use Rattle.page.specs.Good.{spell_move, spell_moves}
use Rattle.imaging.specs.Put.{Put}
use Rattle.imaging.specs.Runs.{station_bytes}
use Rattle.imaging.proofs.Placing.{placed_none, placed_twice}
use Rattle.imaging.proofs.Spelling.{move-append}

-- `run` is the whole run, and `left` what is left of it behind so many moves that are written.
pub record Writing (before : List ℕ) (from : ℕ) (run : List Move) (table : List ℕ) (at written : ℕ)
    (left : List Move) : Type 0 where
  pub same : placed table at (spell_moves left []) ≡ placed before from (spell_moves run [])
  pub ends : at + length (spell_moves left []) ≡ from + length (spell_moves run [])
  pub counted : written + length left ≡ length run
  pub same_length : length table ≡ length before

module _ {before : List ℕ} {from : ℕ} {run : List Move} {table : List ℕ} {at written : ℕ} {left : List Move} where
  pub writing_more : (m : Move) (rest : List Move) → left ≡ m ∷ rest
      → from + length (spell_moves run []) ≤ length before
      → Writing before from run table at written left
      → (after : List ℕ) (behind : ℕ) → Put table at (spell_move m []) after behind
      → Writing before from run after behind (written + 1) rest
  unfolding spell_moves
  writing_more m rest e room w after behind put =
      let spelled : spell_moves left [] ≡ spell_move m [] ++ spell_moves rest [] =
      ap (λ l. spell_moves l []) e ∙ move-append m (spell_moves rest []) in
      let lengths : length (spell_moves left []) ≡ length (spell_move m []) + length (spell_moves rest []) =
      ap length spelled ∙ length-append (spell_move m []) (spell_moves rest []) in
      let fits : at + length (spell_move m []) ≤ length table = omega (arith, w.ends, w.same_length) in
      record {
        same =
            ap (λ l. placed l behind (spell_moves rest [])) put.table ∙
            ap (λ n. placed (placed table at (spell_move m [])) n (spell_moves rest [])) put.offset ∙
            placed_twice table at (spell_move m []) (spell_moves rest []) (omega arith) ∙
            ap (placed table at) (sym spelled) ∙
            w.same;
        ends = omega (arith, put.offset, w.ends);
        counted = omega (arith, ap length e, w.counted);
        same_length = ap length put.table ∙ placed-length table at (spell_move m []) fits ∙ w.same_length;
      }

  -- the first move of those left has room
  pub writing_room : (m : Move) (rest : List Move) → left ≡ m ∷ rest
      → from + length (spell_moves run []) ≤ length before
      → Writing before from run table at written left → at + length (spell_move m []) ≤ length table
  unfolding spell_moves
  writing_room m rest e room w =
      let lengths : length (spell_moves left []) ≡ length (spell_move m []) + length (spell_moves rest []) =
      ap (λ l. length (spell_moves l [])) e ∙ ap length (move-append m (spell_moves rest [])) ∙
      length-append (spell_move m []) (spell_moves rest []) in
      omega (arith, w.ends, w.same_length)

  pub writing_over : left ≡ [] → Writing before from run table at written left
      → Put before from (spell_moves run []) table at × (written ≡ length run)
  unfolding spell_moves
  writing_over none w =
      let nothing : spell_moves left [] ≡ [] = ap (λ l. spell_moves l []) none in (
        record {
          table = sym (placed_none table at) ∙ ap (placed table at) (sym nothing) ∙ w.same;
          offset = omega (arith, ap length nothing, w.ends);
        },
        omega (arith, ap length none, w.counted),
      )

-- A station put before its moves.
pub put_station : (before : List ℕ) (from u : ℕ) (run : List Move) → from ≤ length before → (begun : List ℕ)
    → begun ≡ placed before from (1 ∷ u % 256 ∷ u / 256 ∷ []) → (after : List ℕ) (at : ℕ)
    → Put begun (from + 3) (spell_moves run []) after at → Put before from (station_bytes u run) after at
put_station before from u run room begun first after at put = record {
  table =
      put.table ∙
      ap (λ l. placed l (from + 3) (spell_moves run [])) first ∙
      placed_twice before from (1 ∷ u % 256 ∷ u / 256 ∷ []) (spell_moves run []) room;
  offset = omega (arith, put.offset);
}
