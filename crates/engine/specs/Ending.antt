-- How a search that has ended is handed over by the engine: the cells hold its costs and predecessors, and the front of
-- the list its page list.
use Rattle.std.specs.Prelude.{◌≡◌, List, ◌++◌, ℕ, ◌<◌, length, get_or, drop, Result, Ok, Err}
use Rattle.net.specs.Net.{Frame}
use Rattle.net.specs.Search.{State, going, refused, cost_of, pred_of}
use Rattle.net.specs.Run.{search_of}
use Rattle.image.specs.declared.BadPage.{BadPage}
use Rattle.image.specs.Image.{fault_number}
use Rattle.reference.specs.declared.Query.{Query}
use Rattle.engine.specs.declared.Ended.{Ended}
use Rattle.map.specs.Map.{map_frame, map_page}
use Rattle.work.specs.Board.{CellIs}

-- Each station's cell holds its cost and predecessor in state s.
abbrev pub CellsHold : Frame → ℕ → State → List ℕ → Type 0
CellsHold F source s cells =
    (v : ℕ) → v < F.size → CellIs source v (cost_of F s v) (pred_of s v) (get_or cells v 0)

-- The page list at the front of a list, and the later entries kept.
abbrev pub Listed : State → List ℕ → List ℕ → ℕ → Type 0
Listed s before list count = (length s.pages ≡ count) × (list ≡ s.pages ++ drop count before)

-- With so many references made, with nobody left to wait or by a bad page.
abbrev pub EndedAs : Frame → ℕ → State → List ℕ → List ℕ → List ℕ → ℕ → Result Unit BadPage → Type 0
EndedAs F source s cells before list count (Ok over) =
    (s.halt ≡ going) × Listed s before list count × CellsHold F source s cells
EndedAs F source s cells before list count (Err bad) =
    (s.halt ≡ refused (fault_number bad.fault) bad.page bad.offset) × Listed s before list count

-- The search that a query asks for on an image has ended, as the search by the letter does.
abbrev pub EndedOn : Query → List ℕ → List ℕ → List ℕ → List ℕ → Ended → Type 0
EndedOn query image cells before list ended =
    EndedAs (map_frame image) query.source
    (search_of query.df (map_frame image) (map_page query.strip image) query.source)
    cells before list ended.count ended.outcome
