-- The numbers that stand for nothing in a table or a key (01, "The two searches"; C-14); src/lib.rt has them for the
-- code.
use Rattle.std.specs.Prelude.{ℕ}

-- "times (none is 4,294,967,295)"
abbrev pub no_time : ℕ
no_time = 4294967295

-- C-14: "moves per station (none 65,535)"
abbrev pub no_moves : ℕ
no_moves = 65535

-- "predecessors (source 65,534; none 65,535; ..)"
abbrev pub source_mark : ℕ
source_mark = 65534

abbrev pub no_pred : ℕ
no_pred = 65535

-- The key of nobody, and the cell of a station without a time: the greatest number of 64 bits.
abbrev pub nobody : ℕ
nobody = 18446744073709551615
