-- The commands of a page (01, "Map image"): how long each is, and which one stands at an offset.
use Rattle.std.specs.Prelude.{List, [], ◌∷◌, ℕ, ◌+◌, length, get_or, ltb, leb, eqb, Result, Ok, Err}
use Rattle.common.specs.Pick.{pick}
use Rattle.image.specs.Bytes.{word}
use Rattle.commands.specs.declared.Move.{Move}
use Rattle.commands.specs.declared.Command as declared
use Rattle.image.specs.declared.Fault as image
use Rattle.image.specs.Image.{fault_number}

-- A command, or the number of the fault that stands in its place.
pub data Command : Type 0 where
  End : Command
  Station : ℕ → Command
  MoveTo : Move → Command
  Limited : Move → Command
  Fault : ℕ → Command

-- What the code's result is: the command that it read, or its fault's number.
abbrev pub command_of : declared.Command → Command
command_of declared.TheVariants.End = End
command_of (declared.TheVariants.Station v) = Station v
command_of (declared.TheVariants.MoveTo m) = MoveTo m
command_of (declared.TheVariants.Limited m) = Limited m

abbrev pub command_in : Result declared.Command image.Fault → Command
command_in (Ok x) = command_of x
command_in (Err fault) = Fault (fault_number fault)

-- "`00` .. (1 byte)", "`01` .. (3 bytes)", "`02` .. (5 bytes)"; C-11: `03` with a third u16, so 7 bytes.
abbrev pub length_of : ℕ → ℕ
length_of code = get_or (1 ∷ 3 ∷ 5 ∷ 7 ∷ []) code 0

-- "one code byte and operands of fixed width": the width of a command that was read. A fault has none.
abbrev pub width_of : Command → ℕ
width_of End = length_of 0
width_of (Station v) = length_of 1
width_of (MoveTo m) = length_of 2
width_of (Limited m) = length_of 3
width_of (Fault number) = 0

-- A move of an offset's command, of either code, with its limit.
abbrev pub move_with : List ℕ → ℕ → ℕ → Move
move_with page at limit = record { target = word page (at + 1); time = word page (at + 3); limit = limit }

-- The command at an offset. 8: unknown code; 9: the command passes the page's last byte, or no `00` came before it.
-- C-11: `03` "has u16 target, u16 time and u16 longest strip in decimetres"; "`02` has no limit", which is written 0.
unfoldable pub command_at : List ℕ → ℕ → Command
command_at page at =
    let code = get_or page at 0 in
    pick (leb (length page) at) (Fault 9)
    (pick (ltb 3 code) (Fault 8)
    (pick (ltb (length page) (at + length_of code)) (Fault 9)
    (pick (eqb code 0) End
    (pick (eqb code 1) (Station (word page (at + 1)))
    (pick (eqb code 2) (MoveTo (move_with page at 0))
    (Limited (move_with page at (word page (at + 5)))))))))
