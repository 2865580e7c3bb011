-- A station's next move. For the code: nothing that is promised speaks of it.
use Rattle.std.specs.Prelude.{List, ℕ, ◌+◌, Option, Some, None}
use Rattle.commands.specs.declared.Move.{Move}
use Rattle.commands.specs.Commands.{Command, End, Station, MoveTo, Limited, Fault, length_of, command_at}

-- The move that a command at an offset is, with the offset behind it.
abbrev pub move_in : ℕ → Command → Option (Move × ℕ)
move_in at (MoveTo m) = Some (m, at + length_of 2)
move_in at (Limited m) = Some (m, at + length_of 3)
move_in at (Station v) = None
move_in at End = None
move_in at (Fault number) = None

abbrev pub next_move : List ℕ → ℕ → Option (Move × ℕ)
next_move page at = move_in at (command_at page at)
