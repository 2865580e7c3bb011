-- A window of a table written: its entries from an index on, and those before and behind it kept.
use Rattle.std.specs.Prelude.{List, ◌++◌, ℕ, ◌+◌, length, take, drop}

abbrev pub placed : List ℕ → ℕ → List ℕ → List ℕ
placed table from entries = take from table ++ entries ++ drop (from + length entries) table
