-- Both searches by the letter of document 01, "The two searches", on lists with an entry for each station. C-14: "Less
-- means less time, then fewer moves; choosing, relaxing, freshness and the refused page follow it in both searches."
-- Where document 01 says time, a search has a cost: time and number of moves in one number (common/specs/Costs.antt).
use Rattle.std.specs.Prelude.{List, [], ◌∷◌, ◌++◌, map, Bool, true, false, not, ◌&&◌, ◌||◌, ℕ, zero, suc, ◌+◌, ◌*◌, ◌/◌, ◌%◌, get_or, set, replicate, ltb, leb, eqb}
use Rattle.common.specs.Pick.{pick}
use Rattle.common.specs.Numbers.{source_mark, no_pred}
use Rattle.common.specs.Costs.{cost, time_in, moves_in}
use Rattle.net.specs.declared.Choice.{Choice}
use Rattle.net.specs.declared.Choice.TheVariants.{Station, Nobody}
use Rattle.net.specs.Net.{Move, Page, good, bad, Frame, count}

-- A search goes on, or a bad page ended it: the refusal's number, the page and the offset.
pub data Halt : Type 0 where
  going : Halt
  refused : ℕ → ℕ → ℕ → Halt

-- Per station a cost or none, a predecessor, and a mark: 1 if settled plus 2 if fresh (the thesis's Valid);
-- beside them the page list, which is the references made so far, in order.
pub record State : Type 0 where
  pub costs : List ℕ
  pub preds : List ℕ
  pub marks : List ℕ
  pub pages : List ℕ
  pub halt : Halt

-- The two numbers of each station, as tables.
abbrev pub time_table : State → List ℕ
time_table s = map time_in s.costs

abbrev pub move_table : State → List ℕ
move_table s = map moves_in s.costs

abbrev pub pred_of : State → ℕ → ℕ
pred_of s v = get_or s.preds v no_pred

abbrev pub mark_of : State → ℕ → ℕ
mark_of s v = get_or s.marks v 0

abbrev pub is_settled : State → ℕ → Bool
is_settled s v = eqb (mark_of s v % 2) 1

abbrev pub is_fresh : State → ℕ → Bool
is_fresh s v = leb 2 (mark_of s v)

-- The state with other tables, with v settled, with v fresh, with one more reference, and ended by a bad page.
abbrev pub with_tables : List ℕ → List ℕ → List ℕ → State → State
with_tables costs preds marks s =
    record { costs = costs; preds = preds; marks = marks; pages = s.pages; halt = s.halt }

abbrev pub settle : ℕ → State → State
settle v s = with_tables s.costs s.preds (set s.marks v (mark_of s v / 2 * 2 + 1)) s

abbrev pub mark_fresh : ℕ → State → State
mark_fresh v s = with_tables s.costs s.preds (set s.marks v (mark_of s v % 2 + 2)) s

abbrev pub with_page : ℕ → State → State
with_page p s =
    record { costs = s.costs; preds = s.preds; marks = s.marks; pages = s.pages ++ (p ∷ []); halt = s.halt }

abbrev pub with_halt : Halt → State → State
with_halt h s = record { costs = s.costs; preds = s.preds; marks = s.marks; pages = s.pages; halt = h }

-- Of the numbers below n that pass the test, the one of least key, then the lowest.
abbrev pub better : (ℕ → ℕ) → ℕ → Bool → Choice → Choice
better key n false best = best
better key n true Nobody = Station n
better key n true (Station m) = Station (pick (ltb (key n) (key m)) n m)

unfoldable pub least : (ℕ → ℕ) → (ℕ → Bool) → ℕ → Choice
least key test zero = Nobody
least key test (suc n) = better key n (test n) (least key test n)

-- A step on the station chosen, where there is one; and n steps.
abbrev pub on_choice : (ℕ → State → State) → Choice → State → State
on_choice step Nobody s = s
on_choice step (Station u) s = step u s

unfoldable pub iter : (State → State) → ℕ → State → State
iter step zero s = s
iter step (suc n) s = iter step n (step s)

module _ (F : Frame) where
  abbrev pub cost_of : State → ℕ → ℕ
  cost_of s v = get_or s.costs v F.none

  abbrev pub has_time : State → ℕ → Bool
  has_time s v = ltb (cost_of s v) F.none

  -- the number of stations reached
  unfoldable pub reached : State → ℕ
  reached s = count (has_time s) F.size

  -- "At the start the source has time 0 and nothing is settled or fresh."
  unfoldable pub start : ℕ → State
  start source = record {
    costs = set (replicate F.size F.none) source 0;
    preds = set (replicate F.size no_pred) source source_mark;
    marks = replicate F.size 0;
    pages = [];
    halt = going;
  }

  -- "choose the unsettled station of least time, then lowest number"; a search that a bad page ended chooses nobody
  abbrev pub choose_at : Halt → State → Choice
  choose_at going s = least (cost_of s) (λ v. not (is_settled s v) && has_time s v) F.size
  choose_at (refused number p offset) s = Nobody

  unfoldable pub choose : State → Choice
  choose s = choose_at s.halt s

  -- "this page has a station that has a time and isn't fresh, take the one of least time, then lowest number"
  unfoldable pub choose_on : ℕ → State → Choice
  choose_on p s = least (cost_of s) (λ v. eqb (F.page_of v) p && (not (is_fresh s v) && has_time s v)) F.size

-- "Settle it, append its page to the list, read the page": what a good page is read for is each search's own.
-- "A bad page ends a search with that page's refusal."
abbrev pub on_page : ((ℕ → List Move) → State → State) → ℕ → Page → State → State
on_page work p (good moves) s = work moves s
on_page work p (bad number offset) s = with_halt (refused number p offset) s

unfoldable pub read_for : Frame → (ℕ → Page) → ℕ → ((ℕ → List Move) → State → State) → State → State
read_for F page u work s = on_page work (F.page_of u) (page (F.page_of u)) (with_page (F.page_of u) (settle u s))

-- The steps, over the comparison of a sum with the cost that a station has: `less sum old`.
module _ (F : Frame) (less : ℕ → ℕ → Bool) where
  -- ".. v gets sum and predecessor u, and v is not fresh. If sum equals v's time and u is below v's predecessor, only
  -- the predecessor becomes u." C-14: "Two ways are now equal only if time and number of moves agree."
  abbrev pub relax_to : ℕ → ℕ → ℕ → State → State
  relax_to u v sum s =
      pick (less sum (cost_of F s v))
      (with_tables (set s.costs v sum) (set s.preds v u) (set s.marks v (mark_of s v % 2)) s)
      (pick (eqb sum (cost_of F s v) && ltb u (pred_of s v)) (with_tables s.costs (set s.preds v u) s.marks s) s)

  -- "Relax a move from u to v: sum = time of u + move time"; C-14: and one move more.
  unfoldable pub relax : ℕ → Move → State → State
  relax u m s = relax_to u m.target (cost_of F s u + cost m.time 1) s

  unfoldable pub relax_all : ℕ → List Move → State → State
  relax_all u [] s = s
  relax_all u (m ∷ moves) s = relax_all u moves (relax u m s)

  -- "mark it fresh and relax its moves"
  unfoldable pub visit : (ℕ → List Move) → ℕ → State → State
  visit moves u s = relax_all u (moves u) (mark_fresh u s)

  -- "while this page has a station ..": one turn, and the loop, which never takes more turns than there are stations
  unfoldable pub work_turn : ℕ → (ℕ → List Move) → State → State
  work_turn p moves s = on_choice (visit moves) (choose_on F p s) s

  unfoldable pub work_through : ℕ → (ℕ → List Move) → State → State
  work_through p moves s = iter (work_turn p moves) F.size s

  module _ (page : ℕ → Page) where
    -- Plain step, of the station chosen: ".. relax its moves in page order."
    unfoldable pub plain_visit : ℕ → State → State
    plain_visit u s = read_for F page u (λ moves. relax_all u (moves u)) s

    -- DF step: "If the station is fresh, the step is over. Otherwise append its page, read it, mark the station fresh
    -- and relax its moves. Then, while this page has a station .."
    unfoldable pub df_visit : ℕ → State → State
    df_visit u s =
        pick (is_fresh s u) (settle u s)
        (read_for F page u (λ moves t. work_through (F.page_of u) moves (visit moves u t)) s)

-- A step of either search, and the whole search, which never takes more steps than there are stations.
module _ (F : Frame) (visit_of : ℕ → State → State) where
  unfoldable pub step_by : State → State
  step_by s = on_choice visit_of (choose F s) s

  unfoldable pub search_by : ℕ → State
  search_by source = iter step_by F.size (start F source)

-- "v has no time, or sum is less"
abbrev pub none_or_less : Frame → ℕ → ℕ → Bool
none_or_less F sum old = not (ltb old F.none) || ltb sum old

unfoldable pub plain_search : Frame → (ℕ → Page) → ℕ → State
plain_search F page source = search_by F (plain_visit F (none_or_less F) page) source

unfoldable pub df_search : Frame → (ℕ → Page) → ℕ → State
df_search F page source = search_by F (df_visit F (none_or_less F) page) source
