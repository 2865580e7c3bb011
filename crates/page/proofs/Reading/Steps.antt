-- One command read is one step of the definition's recursion. So what holds of every reading by its first command, if
-- it holds of what is read behind that command, holds of every reading.
use Rattle.common.proofs.Ground.{◌≡◌, refl, ap, ◌∙◌, List, [], ℕ, zero, suc, ◌+◌, ◌-◌, ◌≤◌, arith, length}
use Rattle.commands.specs.declared.Move.{Move}
use Rattle.page.specs.Reading.{Reading, good, bad, with_move, with_station, read_from}
use Rattle.commands.specs.Commands.{Command, End, Station, MoveTo, Limited, Fault, length_of, width_of}
use Rattle.rules.specs.Rules.{next_on, judged_at}
use Rattle.commands.proofs.Lengths.{MoveStands, OfPage}
use Rattle.rules.proofs.Judging.{MoveKeeps, Keeps, Judged, judged}

-- A command that is a move of a code.
pub data IsMove (m : Move) : ℕ → Command → Type 0 where
  unlimited : IsMove m 2 (MoveTo m)
  limited : IsMove m 3 (Limited m)

module _ (directory : List ℕ) (p : ℕ) (page : List ℕ) where
  -- What is judged at an offset, and the reading that begins with it.
  abbrev pub found_at : ℕ → ℕ → ℕ → Command
  found_at at after least = judged_at page at (length directory) (next_on directory p after) after least

  abbrev pub Found : ℕ → ℕ → ℕ → Command → Type 0
  Found at after least = Judged page at (length directory) (next_on directory p after) after least

  abbrev pub reading : ℕ → ℕ → ℕ → ℕ → Command → Reading
  reading commands at after least x =
      elim x [
        | End ↦ good [] []
        | Station v ↦ with_station v (read_from directory p page commands (at + width_of (Station v)) (v + 1) 0)
        | MoveTo m ↦ with_move m (read_from directory p page commands (at + width_of (MoveTo m)) after (m.target + 1))
        | Limited m ↦ with_move m (read_from directory p page commands (at + width_of (Limited m)) after (m.target + 1))
        | Fault number ↦ bad number at
      ]

  -- A move found, of either code.
  abbrev pub FoundMove : ℕ → ℕ → ℕ → ℕ → Move → Type 0
  FoundMove at after least code m = MoveStands page at code m × MoveKeeps (length directory) after least code m

  pub found-move : {code : ℕ} {m : Move} {x : Command} {at after least : ℕ} → IsMove m code x → Found at after least x
      → FoundMove at after least code m
  found-move unlimited j = j
  found-move limited j = j

  pub keeps_move : {code : ℕ} {m : Move} {x : Command} (at : ℕ) {after least : ℕ} → IsMove m code x
      → MoveKeeps (length directory) after least code m
      → Keeps page at (length directory) (next_on directory p after) after least x
  keeps_move at unlimited k = k
  keeps_move at limited k = k

  pub read_move_step : {code : ℕ} {m : Move} {x : Command} → IsMove m code x → (commands at after least : ℕ)
      → reading commands at after least x
      ≡ with_move m (read_from directory p page commands (at + length_of code) after (m.target + 1))
  read_move_step unlimited commands at after least = refl
  read_move_step limited commands at after least = refl

  pub read_step : (commands at after least : ℕ) {x : Command} → 1 ≤ commands → found_at at after least ≡ x
      → read_from directory p page commands at after least ≡ reading (commands - 1) at after least x
  unfolding read_from
  read_step commands at after least some e =
      let one : commands ≡ suc (commands - 1) = omega arith in
      ap (λ n. read_from directory p page n at after least) one ∙ ap (reading (commands - 1) at after least) e

  module _ (Holds : ℕ → ℕ → ℕ → Reading → Type 0)
      (fault : (at after least number : ℕ) → OfPage number → Holds at after least (bad number at))
      (end : (at after least : ℕ) → Found at after least End → Holds at after least (good [] []))
      (station : (at after least v : ℕ) → Found at after least (Station v) → (r : Reading)
      → Holds (at + width_of (Station v)) (v + 1) 0 r → Holds at after least (with_station v r))
      (move : (at after least code : ℕ) (m : Move) → FoundMove at after least code m → (r : Reading)
      → Holds (at + length_of code) after (m.target + 1) r → Holds at after least (with_move m r)) where
    by_command : (commands at after least : ℕ) (x : Command) → Found at after least x
        → ((i a l : ℕ) → Holds i a l (read_from directory p page commands i a l))
        → Holds at after least (reading commands at after least x)
    by_command commands at after least End j behind = end at after least j
    by_command commands at after least (Station v) j behind = station at after least v j _ (behind _ _ _)
    by_command commands at after least (MoveTo m) j behind = move at after least 2 m j _ (behind _ _ _)
    by_command commands at after least (Limited m) j behind = move at after least 3 m j _ (behind _ _ _)
    by_command commands at after least (Fault number) j behind = fault at after least number j.0

    pub by_commands : (commands at after least : ℕ)
        → Holds at after least (read_from directory p page commands at after least)
    unfolding read_from
    by_commands zero at after least = fault at after least 9 tt
    by_commands (suc commands) at after least =
        by_command commands at after least (found_at at after least)
        (judged page at (length directory) (next_on directory p after) after least refl) (by_commands commands)
