-- What the page reader lays out for those who never look at a page's bytes: the moves of each station of a good page
-- that are open to a strip, in page order, as the station's row (crates/layout/specs/Rows.antt).
use Rattle.std.specs.Prelude.{◌≡◌, ◌≢◌, List, map, ℕ, ◌<◌, length, get_or}
use Rattle.layout.specs.Rows.{entry_of, end_of, Laid}
use Rattle.commands.specs.declared.Move.{Move}
use Rattle.page.specs.Reading.{Leaving, moves_in}
use Rattle.page.specs.Open.{open_to}

-- Open moves as the entries of a row.
abbrev pub row_for : ℕ → List Move → List ℕ
row_for strip moves = map (λ (m : Move). entry_of m.time m.target) (open_to strip moves)

-- Every station of page p has the row of the moves that the page's content gives it.
abbrev pub PageLaid : List ℕ → ℕ → ℕ → List Leaving → List ℕ → Type 0
PageLaid directory p strip stations layout =
    (u : ℕ) → u < length directory → get_or directory u 0 ≡ p → Laid layout p u (row_for strip (moves_in stations u))

-- The stations of all other pages keep their rows, and those that have none still have none.
pub record OthersKept (directory : List ℕ) (p : ℕ) (before after : List ℕ) : Type 0 where
  pub rows : (u q : ℕ) (row : List ℕ) → u < length directory → get_or directory u 0 ≡ q → q ≢ p → Laid before q u row
      → Laid after q u row
  pub ends : (u : ℕ) → u < length directory → get_or directory u 0 ≢ p → end_of after u ≡ end_of before u
