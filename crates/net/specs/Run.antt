-- Both searches as the engine runs them, by a flag: a run of references. While a station waits, the first that does is
-- referred to: its page is listed and read, and stations that wait there are visited, in the DF search until none does,
-- in the plain search one. But for the marks this is the search by the letter (Search.antt), which is a law
-- (`run_is_search`, proofs/Runs.antt): nobody has to believe these definitions. The engine's contracts cite them.
use Rattle.std.specs.Prelude.{◌≡◌, List, [], Bool, true, false, not, ◌&&◌, ℕ, suc, ◌≤◌, ltb, eqb}
use Rattle.net.specs.declared.Choice.{Choice}
use Rattle.net.specs.declared.Choice.TheVariants.{Station, Nobody}
use Rattle.net.specs.Net.{Move, Page, good, Frame}
use Rattle.net.specs.Search.{State, Halt, going, refused, is_settled, is_fresh, with_tables, settle, mark_fresh}
use Rattle.net.specs.Search.{with_page, cost_of, has_time, start, least, on_choice, iter, on_page, relax_all}
use Rattle.net.specs.Search.{plain_search, df_search}

-- The search that the flag names: DF where it is true.
abbrev pub search_of : Bool → Frame → (ℕ → Page) → ℕ → State
search_of true = df_search
search_of false = plain_search

-- A state without its marks.
abbrev pub unmarked : State → State
unmarked s = with_tables s.costs s.preds [] s

-- v has been visited at its present time. DF: "mark it fresh and relax its moves"; plain: "Settle it, .. relax its
-- moves".
abbrev pub is_done : Bool → State → ℕ → Bool
is_done true s v = is_fresh s v
is_done false s v = is_settled s v

abbrev pub stop_waiting : Bool → ℕ → State → State
stop_waiting true = mark_fresh
stop_waiting false = settle

-- The turns that a page in hand gets: DF as many as a visit and the page loop have by the letter; plain one.
abbrev pub turn_limit : Bool → Frame → ℕ
turn_limit true F = suc F.size
turn_limit false F = 1

module _ (df : Bool) (F : Frame) where
  -- DF: "a station that has a time and isn't fresh"; plain: "the unsettled station"
  abbrev pub waits : State → ℕ → Bool
  waits s v = not (is_done df s v) && has_time F s v

  -- ".. of least time, then lowest number", of all that wait; nobody once a bad page ended the search
  abbrev pub first_at : Halt → State → Choice
  first_at going s = least (cost_of F s) (waits s) F.size
  first_at (refused number p offset) s = Nobody

  unfoldable pub first_waiting : State → Choice
  first_waiting s = first_at s.halt s

  -- and of those on page p
  unfoldable pub first_on : ℕ → State → Choice
  first_on p s = least (cost_of F s) (λ v. eqb (F.page_of v) p && waits s v) F.size

  -- A visit of u; a turn with page p in hand, which changes nothing if nobody waits there; and all its turns.
  unfoldable pub visit_of : (ℕ → List Move) → ℕ → State → State
  visit_of moves u s = relax_all F ltb u (moves u) (stop_waiting df u s)

  unfoldable pub turn_of : ℕ → (ℕ → List Move) → State → State
  turn_of p moves s = on_choice (visit_of moves) (first_on p s) s

  unfoldable pub page_work : ℕ → (ℕ → List Move) → State → State
  page_work p moves s = iter (turn_of p moves) (turn_limit df F) s

  module _ (page : ℕ → Page) where
    -- A reference for u; and one for the first that waits.
    unfoldable pub reference : ℕ → State → State
    reference u s = on_page (page_work (F.page_of u)) (F.page_of u) (page (F.page_of u)) (with_page (F.page_of u) s)

    unfoldable pub step_run : State → State
    step_run s = on_choice reference (first_waiting s) s

    module _ (source : ℕ) where
      -- The run after k references; and at its end, as it never makes more than there are stations.
      abbrev pub after_references : ℕ → State
      after_references k = iter step_run k (start F source)

      unfoldable pub run_of : State
      run_of = after_references F.size

      -- In state s of the run good page p is in hand, which offers these moves: after k references it was referred to,
      -- and m turns have been made since.
      pub record InHand (k p : ℕ) (moves : ℕ → List Move) (m : ℕ) (s : State) : Type 0 where
        pub station : ℕ
        pub first : first_waiting (after_references k) ≡ Station station
        pub on : F.page_of station ≡ p
        pub content : page p ≡ good moves
        pub turns : m ≤ turn_limit df F
        pub state : s ≡ iter (turn_of p moves) m (with_page p (after_references k))
