-- The rules at one command of a page (01, "Map image"): it is itself, or the number of its fault.
use Rattle.std.specs.Prelude.{List, [], ◌∷◌, ℕ, suc, ◌+◌, drop, ltb, leb, eqb, Result, Ok, Err}
use Rattle.common.specs.Pick.{pick}
use Rattle.image.specs.Bytes.{all_zero}
use Rattle.commands.specs.declared.Move.{Move}
use Rattle.image.specs.declared.Fault as image
use Rattle.image.specs.Image.{fault_number}
use Rattle.commands.specs.Commands.{Command, End, Station, MoveTo, Limited, Fault, command_at}

-- The first station from `from` on that the directory gives page p, or the number of stations.
unfoldable pub first_on : ℕ → List ℕ → ℕ
first_on p [] = 0
first_on p (d ∷ ds) = let rest = suc (first_on p ds) in pick (eqb d p) 0 rest

unfoldable pub next_on : List ℕ → ℕ → ℕ → ℕ
next_on directory p from = from + first_on p (drop from directory)

-- The rules at one command, behind 8 and 9: each gives the command itself, or the number of its fault. `size` is N,
-- `due` the next station of the page (N where none is left), `after` 1 more than the latest station (0 where there is
-- none yet), and `least` the least target that still rises.

-- "for `00`: 10 if a station is still missing, then 14"
unfoldable pub judge_end : ℕ → ℕ → List ℕ → Command
judge_end size due rest = pick (ltb due size) (Fault 10) (pick (all_zero rest) End (Fault 14))

-- "for `01`: 10", not the next station
unfoldable pub judge_station : ℕ → ℕ → ℕ → Command
judge_station size due v = pick (leb size v) (Fault 10) (pick (eqb v due) (Station v) (Fault 10))

-- "for `02`: 11, 12": before a station; target not below N, own station, or not rising. 0 if none holds. C-15: "Time 0
-- is accepted in `02` and `03`, so 13 no longer occurs."
unfoldable pub move_fault : ℕ → ℕ → ℕ → Move → ℕ
move_fault size after least m =
    pick (eqb after 0) 11
    (pick (leb size m.target) 12
    (pick (eqb (m.target + 1) after) 12
    (pick (ltb m.target least) 12 0)))

-- What the code's test of these rules says: the number of the one that is broken, or 0.
abbrev pub fault_in : Result Unit image.Fault → ℕ
fault_in (Ok kept) = 0
fault_in (Err fault) = fault_number fault

unfoldable pub judge_move : ℕ → ℕ → ℕ → Move → Command
judge_move size after least m =
    let fault = move_fault size after least m in pick (ltb 0 fault) (Fault fault) (MoveTo m)

-- C-11: `03` "under all rules of `02`"; "a limit of 0 with 18", tried after these
unfoldable pub judge_limited : ℕ → ℕ → ℕ → Move → Command
judge_limited size after least m =
    let fault = move_fault size after least m in
    pick (ltb 0 fault) (Fault fault) (pick (eqb m.limit 0) (Fault 18) (Limited m))

unfoldable pub judge : ℕ → ℕ → ℕ → ℕ → List ℕ → Command → Command
judge size due after least rest End = judge_end size due rest
judge size due after least rest (Station v) = judge_station size due v
judge size due after least rest (MoveTo m) = judge_move size after least m
judge size due after least rest (Limited m) = judge_limited size after least m
judge size due after least rest (Fault number) = Fault number

unfoldable pub judged_at : List ℕ → ℕ → ℕ → ℕ → ℕ → ℕ → Command
judged_at page at size due after least = judge size due after least (drop at page) (command_at page at)
