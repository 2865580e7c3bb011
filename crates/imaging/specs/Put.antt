-- Entries put into a table from an offset on, and the offset behind them.
use Rattle.std.specs.Prelude.{◌≡◌, List, ℕ, ◌+◌, length}
use Rattle.common.specs.Window.{placed}

pub record Put (before : List ℕ) (from : ℕ) (entries after : List ℕ) (behind : ℕ) : Type 0 where
  pub table : after ≡ placed before from entries
  pub offset : behind ≡ from + length entries
