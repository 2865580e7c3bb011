-- Beliefs from the course, on the course maps of document 01: each is refuted by computing the DF search, and where the
-- belief is about how it goes on, a variant that follows the belief (docs/course.md tells them with their numbers).
-- Beside them stand the runs on M7, so that a wrong definition of the run is refused by the course's numbers first.
use Rattle.common.proofs.Ground.{◌≡◌, refl, true, false, ◌&&◌, List, [], ◌∷◌, ℕ, ◌+◌, get_or, set, eqb, ltb}
use Rattle.common.specs.Pick.{pick}
use Rattle.common.specs.Costs.{cost, time_in, no_cost}
use Rattle.net.specs.Net.{Move, Page, good, bad, Frame}
use Rattle.net.specs.Search.{State, refused, cost_of, pred_of, is_fresh, with_tables, settle, mark_fresh, start}
use Rattle.net.specs.Search.{time_table, move_table, least, choose}
use Rattle.net.specs.Search.{choose_on, on_choice, iter, read_for, relax, relax_all, visit, work_turn, work_through}
use Rattle.net.specs.Search.{df_visit, none_or_less, step_by, search_by, df_search}
use Rattle.net.specs.Run.{first_waiting, first_on, visit_of, turn_of, page_work, reference, step_run, run_of}
use Rattle.net.specs.Ways.{after_df}

abbrev to : ℕ → ℕ → Move
to v w = record { target = v; time = w }

abbrev m7 : Frame
m7 = record { size = 7; page_of = λ v. get_or (0 ∷ 0 ∷ 0 ∷ 0 ∷ 1 ∷ 1 ∷ 1 ∷ []) v 0; none = no_cost }

abbrev m7_moves_lem : List (List Move)
m7_moves_lem = (to 1 4 ∷ to 4 2 ∷ []) ∷ (to 2 3 ∷ []) ∷ (to 3 3 ∷ []) ∷ (to 5 3 ∷ []) ∷ (to 2 1 ∷ to 5 6 ∷ []) ∷
    (to 6 1 ∷ []) ∷ [] ∷ []

abbrev m7_page : ℕ → Page
m7_page p = good (λ u. get_or m7_moves_lem u [])

-- The times of M7 from 0 after one, two and three DF steps, and the moves after the third; the steps after these fetch
-- nothing and change no cost.
pub m7_step_by_step :
    (time_table (after_df m7 m7_page 0 1) ≡ 0 ∷ 4 ∷ 7 ∷ 10 ∷ 2 ∷ 13 ∷ 4294967295 ∷ [])
    × (time_table (after_df m7 m7_page 0 2) ≡ 0 ∷ 4 ∷ 3 ∷ 10 ∷ 2 ∷ 8 ∷ 9 ∷ [])
    × (time_table (after_df m7 m7_page 0 3) ≡ 0 ∷ 4 ∷ 3 ∷ 6 ∷ 2 ∷ 8 ∷ 9 ∷ [])
    × (move_table (after_df m7 m7_page 0 3) ≡ 0 ∷ 1 ∷ 2 ∷ 3 ∷ 1 ∷ 2 ∷ 3 ∷ [])
    × ((df_search m7 m7_page 0).costs ≡ (after_df m7 m7_page 0 3).costs)
    × ((df_search m7 m7_page 0).pages ≡ 0 ∷ 1 ∷ 0 ∷ [])
unfolding iter least relax relax_all visit choose choose_on work_turn work_through read_for df_visit step_by search_by
    start df_search
m7_step_by_step = (refl, refl, refl, refl, refl, refl)

-- "Worked through is final": station 2 has time 7 after the first step, which works page 0 through, and 3 at the end.
pub worked_through_is_not_final :
    (time_in (cost_of m7 (after_df m7 m7_page 0 1) 2) ≡ 7) × (time_in (cost_of m7 (df_search m7 m7_page 0) 2) ≡ 3)
unfolding iter least relax relax_all visit choose choose_on work_turn work_through read_for df_visit step_by search_by
    start df_search
worked_through_is_not_final = (refl, refl)

-- "Stop when each page has been seen once": after two steps the list is 0 1, and each page of the map stands in it, but
-- station 3 has time 10 then; at the end it has 6.
pub seen_once_is_not_the_end :
    ((after_df m7 m7_page 0 2).pages ≡ 0 ∷ 1 ∷ []) × (time_in (cost_of m7 (after_df m7 m7_page 0 2) 3) ≡ 10)
    × (time_in (cost_of m7 (df_search m7 m7_page 0) 3) ≡ 6)
unfolding iter least relax relax_all visit choose choose_on work_turn work_through read_for df_visit step_by search_by
    start df_search
seen_once_is_not_the_end = (refl, refl, refl)

-- The DF search with another way to visit a station: to mark it fresh and to relax its moves.
module _ (F : Frame) (page : ℕ → Page) (visit_as : (ℕ → List Move) → ℕ → State → State) where
  abbrev turn_as : ℕ → (ℕ → List Move) → State → State
  turn_as p moves s = on_choice (visit_as moves) (choose_on F p s) s

  abbrev df_visit_as : ℕ → State → State
  df_visit_as u s = pick (is_fresh s u) (settle u s)
      (read_for F page u (λ moves t. iter (turn_as (F.page_of u) moves) F.size (visit_as moves u t)) s)

-- A lowered station stays fresh: relaxing leaves the marks as they were.
abbrev visit_staying : Frame → (ℕ → List Move) → ℕ → State → State
visit_staying F moves u s =
    let t = visit F (none_or_less F) moves u s in
    with_tables t.costs t.preds (mark_fresh u s).marks t

-- "A lowered station may stay fresh": then station 3 keeps 10, though a walk of 6 leads there.
pub lowered_must_not_stay_fresh :
    (time_in (cost_of m7 (search_by m7 (df_visit_as m7 m7_page (visit_staying m7)) 0) 3) ≡ 10)
    × (time_in (cost_of m7 (df_search m7 m7_page 0) 3) ≡ 6)
unfolding iter least relax relax_all visit choose choose_on work_turn work_through read_for df_visit step_by search_by
    start df_search
lowered_must_not_stay_fresh = (refl, refl)

abbrev c6 : Frame
c6 = record { size = 4; page_of = λ v. 0; none = no_cost }

abbrev c6_page : ℕ → Page
c6_page p = good (λ u. get_or ((to 1 6 ∷ to 2 5 ∷ []) ∷ (to 3 4 ∷ []) ∷ (to 3 5 ∷ []) ∷ [] ∷ []) u [])

-- The first predecessor found stays: a move is relaxed only where it gives a station its first time or lowers it.
abbrev relax_first : Frame → ℕ → List Move → State → State
relax_first F u [] s = s
relax_first F u (m ∷ moves) s = relax_first F u moves
    (pick (none_or_less F (cost_of F s u + cost m.time 1) (cost_of F s m.target)) (relax F (none_or_less F) u m s) s)

abbrev visit_first : Frame → (ℕ → List Move) → ℕ → State → State
visit_first F moves u s = relax_first F u (moves u) (mark_fresh u s)

-- "The first predecessor found stays": on the course map C6 station 3 is reached through 2 first, then through 1 at
-- the same time, 10. By the belief its predecessor would be 2; it is 1.
pub lowest_predecessor_counts :
    (pred_of (search_by c6 (df_visit_as c6 c6_page (visit_first c6)) 0) 3 ≡ 2)
    × (time_in (cost_of c6 (df_search c6 c6_page 0) 3) ≡ 10) × (pred_of (df_search c6 c6_page 0) 3 ≡ 1)
unfolding iter least relax relax_all visit choose choose_on work_turn work_through read_for df_visit step_by search_by
    start df_search
lowest_predecessor_counts = (refl, refl, refl)

-- Page 1 of M7 is bad (C7): the search is refused, and does not take it for a page without moves.
abbrev m7_bad_page : ℕ → Page
m7_bad_page p = pick (eqb p 1) (bad 8 0) (m7_page p)

pub bad_page_ends_the_search :
    ((df_search m7 m7_bad_page 0).halt ≡ refused 8 1 0) × ((df_search m7 m7_bad_page 0).pages ≡ 0 ∷ 1 ∷ [])
unfolding iter least relax relax_all visit choose choose_on work_turn work_through read_for df_visit step_by search_by
    start df_search
bad_page_ends_the_search = (refl, refl)

-- Maps on which fewer moves decide (C-14), with the moves 0-2/1, 1-3/2, 2-1/1, 2-3/3 on one page; and 0-1/1, 0-3/1,
-- 1-4/1, 3-2/3, 4-2/2 with station 3 on page 1.
abbrev short_cut : Frame
short_cut = record { size = 4; page_of = λ v. 0; none = no_cost }

abbrev short_cut_page : ℕ → Page
short_cut_page p = good (λ u. get_or ((to 2 1 ∷ []) ∷ (to 3 2 ∷ []) ∷ (to 1 1 ∷ to 3 3 ∷ []) ∷ [] ∷ []) u [])

abbrev over_page : Frame
over_page = record { size = 5; page_of = λ v. get_or (0 ∷ 0 ∷ 0 ∷ 1 ∷ 0 ∷ []) v 0; none = no_cost }

abbrev over_page_page : ℕ → Page
over_page_page p =
    good (λ u. get_or ((to 1 1 ∷ to 3 1 ∷ []) ∷ (to 4 1 ∷ []) ∷ [] ∷ (to 2 3 ∷ []) ∷ (to 2 2 ∷ []) ∷ []) u [])

-- "Of equal times the lowest predecessor counts": station 3 is reached in time 4 through 1 by three moves and through 2
-- by two. By the belief its predecessor would be 1; it is 2.
pub fewer_moves_before_lower_predecessor :
    (time_table (df_search short_cut short_cut_page 0) ≡ 0 ∷ 2 ∷ 1 ∷ 4 ∷ [])
    × (move_table (df_search short_cut short_cut_page 0) ≡ 0 ∷ 2 ∷ 1 ∷ 2 ∷ [])
    × ((df_search short_cut short_cut_page 0).preds ≡ 65534 ∷ 2 ∷ 0 ∷ 2 ∷ [])
unfolding iter least relax relax_all visit choose choose_on work_turn work_through read_for df_visit step_by search_by
    start df_search
fewer_moves_before_lower_predecessor = (refl, refl, refl)

-- "A time that stays leaves a station fresh": station 2 has time 4 when page 0 has been worked through, by three moves,
-- and then by two, through page 1. So page 0 is fetched again.
pub fewer_moves_end_freshness :
    (time_table (df_search over_page over_page_page 0) ≡ 0 ∷ 1 ∷ 4 ∷ 1 ∷ 2 ∷ [])
    × (move_table (df_search over_page over_page_page 0) ≡ 0 ∷ 1 ∷ 2 ∷ 1 ∷ 2 ∷ [])
    × ((df_search over_page over_page_page 0).pages ≡ 0 ∷ 1 ∷ 0 ∷ [])
unfolding iter least relax relax_all visit choose choose_on work_turn work_through read_for df_visit step_by search_by
    start df_search
fewer_moves_end_freshness = (refl, refl, refl)

-- With 0-2/1, 0-3/2 and 2-1/1, station 1 on page 1 and station 3 on page 2, both bad: the two have time 2, and 3 has
-- fewer moves.
abbrev two_bad_lem : Frame
two_bad_lem = record { size = 4; page_of = λ v. get_or (0 ∷ 1 ∷ 0 ∷ 2 ∷ []) v 0; none = no_cost }

abbrev two_bad_page : ℕ → Page
two_bad_page p =
    pick (eqb p 0) (good (λ u. get_or ((to 2 1 ∷ to 3 2 ∷ []) ∷ [] ∷ (to 1 1 ∷ []) ∷ [] ∷ []) u [])) (bad 8 0)

pub fewer_moves_refused_first : (df_search two_bad_lem two_bad_page 0).halt ≡ refused 8 2 0
unfolding iter least relax relax_all visit choose choose_on work_turn work_through read_for df_visit step_by search_by
    start df_search
fewer_moves_refused_first = refl

-- A turntable (C-15), with the moves 0-1/0 and 1-0/0, and 2-0/5, 2-1/5 to it.
abbrev turntable : Frame
turntable = record { size = 3; page_of = λ v. 0; none = no_cost }

abbrev turntable_page : ℕ → Page
turntable_page p = good (λ u. get_or ((to 1 0 ∷ []) ∷ (to 0 0 ∷ []) ∷ (to 0 5 ∷ to 1 5 ∷ []) ∷ []) u [])

-- A move counts as no move: equal time alone makes a tie, and a lower station becomes the predecessor.
abbrev relax_by_time : Frame → ℕ → List Move → State → State
relax_by_time F u [] s = s
relax_by_time F u (m ∷ moves) s =
    let v = m.target in
    let ties = eqb (time_in (cost_of F s u) + m.time) (time_in (cost_of F s v)) && ltb u (pred_of s v) in
    relax_by_time F u moves
    (pick ties (with_tables s.costs (set s.preds v u) s.marks s) (relax F (none_or_less F) u m s))

abbrev visit_by_time : Frame → (ℕ → List Move) → ℕ → State → State
visit_by_time F moves u s = relax_by_time F u (moves u) (mark_fresh u s)

-- "A move without time is no move": from 2 the stations of the turntable would be each other's predecessor, and from 0
-- the source would get one, so that no chain of predecessors ends. A move is a move: 2 is before both, and the source
-- stays the source.
pub a_move_without_time_is_a_move :
    ((search_by turntable (df_visit_as turntable turntable_page (visit_by_time turntable)) 2).preds ≡ 1 ∷ 0 ∷ 65534 ∷ [])
    × ((df_search turntable turntable_page 2).preds ≡ 2 ∷ 2 ∷ 65534 ∷ [])
    × ((search_by turntable (df_visit_as turntable turntable_page (visit_by_time turntable)) 0).preds ≡ 1 ∷ 0 ∷ 65535 ∷ [])
    × ((df_search turntable turntable_page 0).preds ≡ 65534 ∷ 0 ∷ 65535 ∷ [])
    × (time_table (df_search turntable turntable_page 2) ≡ 5 ∷ 5 ∷ 0 ∷ [])
    × (move_table (df_search turntable turntable_page 2) ≡ 1 ∷ 1 ∷ 0 ∷ [])
unfolding iter least relax relax_all visit choose choose_on work_turn work_through read_for df_visit step_by search_by
    start df_search
a_move_without_time_is_a_move = (refl, refl, refl, refl, refl, refl)

-- The runs on M7 (specs/Run): C1 to C3, and C7.
pub m7_runs :
    (time_table (run_of true m7 m7_page 0) ≡ 0 ∷ 4 ∷ 3 ∷ 6 ∷ 2 ∷ 8 ∷ 9 ∷ [])
    × (move_table (run_of true m7 m7_page 0) ≡ 0 ∷ 1 ∷ 2 ∷ 3 ∷ 1 ∷ 2 ∷ 3 ∷ [])
    × ((run_of true m7 m7_page 0).preds ≡ 65534 ∷ 0 ∷ 4 ∷ 2 ∷ 0 ∷ 4 ∷ 5 ∷ [])
    × ((run_of true m7 m7_page 0).pages ≡ 0 ∷ 1 ∷ 0 ∷ [])
    × ((run_of false m7 m7_page 0).pages ≡ 0 ∷ 1 ∷ 0 ∷ 0 ∷ 0 ∷ 1 ∷ 1 ∷ [])
    × ((run_of true m7 m7_bad_page 0).halt ≡ refused 8 1 0) × ((run_of true m7 m7_bad_page 0).pages ≡ 0 ∷ 1 ∷ [])
unfolding iter least relax relax_all first_waiting first_on visit_of turn_of page_work reference step_run run_of start
m7_runs = (refl, refl, refl, refl, refl, refl, refl)
