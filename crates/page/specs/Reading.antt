-- What reading a page gives: its content, or the number and the offset of the first command at fault (01, "Map image").
use Rattle.std.specs.Prelude.{List, [], ◌∷◌, ℕ, zero, suc, ◌+◌, length, eqb, Result, Ok, Err}
use Rattle.common.specs.Pick.{pick}
use Rattle.image.specs.Image.{directory_of, page_bytes, fault_number}
use Rattle.commands.specs.declared.Move.{Move}
use Rattle.commands.specs.Commands.{End, Station, MoveTo, Limited, Fault, width_of}
use Rattle.rules.specs.Rules.{next_on, judged_at}
use Rattle.page.specs.declared.BadCommand.{BadCommand}

-- A station of a page with its moves in page order.
pub record Leaving : Type 0 where
  pub station : ℕ
  pub moves : List Move

-- What reading gives from a command on: the moves that still belong to the station before it and the stations that
-- follow; or the number and the offset of the first command at fault.
pub data Reading : Type 0 where
  good : List Move → List Leaving → Reading
  bad : ℕ → ℕ → Reading

abbrev pub with_move : Move → Reading → Reading
with_move m (good moves stations) = good (m ∷ moves) stations
with_move m (bad number offset) = bad number offset

abbrev pub with_station : ℕ → Reading → Reading
with_station v (good moves stations) = good [] (record { station = v; moves = moves } ∷ stations)
with_station v (bad number offset) = bad number offset

-- "reading stops at the first command at fault and gives its offset". Each command takes a byte or more, so that a
-- page has at most as many commands as bytes, and one more finds its end.
module _ (directory : List ℕ) (p : ℕ) (page : List ℕ) where
  unfoldable pub read_from : ℕ → ℕ → ℕ → ℕ → Reading
  read_from zero at after least = bad 9 at
  read_from (suc commands) at after least =
      elim (judged_at page at (length directory) (next_on directory p after) after least) [
        | End ↦ good [] []
        | Station v ↦ with_station v (read_from commands (at + width_of (Station v)) (v + 1) 0)
        | MoveTo m ↦ with_move m (read_from commands (at + width_of (MoveTo m)) after (m.target + 1))
        | Limited m ↦ with_move m (read_from commands (at + width_of (Limited m)) after (m.target + 1))
        | Fault number ↦ bad number at
      ]

  unfoldable pub read_page : Reading
  read_page = read_from (suc (length page)) 0 0 0

-- What reading page p of an image gives, the verdict on it, and what the reader's answer says of that.
unfoldable pub reading_of : List ℕ → ℕ → Reading
reading_of image p = read_page (directory_of image) p (page_bytes image p)

pub data Verdict : Type 0 where
  Good : Verdict
  Bad : ℕ → ℕ → Verdict

abbrev pub verdict_of : Reading → Verdict
verdict_of (good moves stations) = Good
verdict_of (bad number offset) = Bad number offset

abbrev pub verdict_in : Result Unit BadCommand → Verdict
verdict_in (Ok read) = Good
verdict_in (Err first) = Bad (fault_number first.fault) first.offset

-- The moves that a page's content has for station u: those of its entry, or none.
unfoldable pub moves_in : List Leaving → ℕ → List Move
moves_in [] u = []
moves_in (x ∷ xs) u = let rest = moves_in xs u in pick (eqb x.station u) x.moves rest
