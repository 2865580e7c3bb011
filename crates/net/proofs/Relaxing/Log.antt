-- The page list and the halt change only where a page is read: relaxing and working a page through leave both alone.
-- For any comparison and any net, by following the definitions; every other file takes list and halt from here, and
-- the DF step by its two cases.
use Rattle.common.proofs.Ground.{◌≡◌, refl, ◌∙◌, ap, Bool, true, false, ◌&&◌, List, [], ◌∷◌, ◌++◌, ℕ, ◌+◌, ltb, eqb}
use Rattle.common.specs.Pick.{pick}
use Rattle.net.specs.declared.Choice.{Choice}
use Rattle.net.specs.declared.Choice.TheVariants.{Station, Nobody}
use Rattle.common.specs.Costs.{cost}
use Rattle.net.specs.Net.{Move, Page, good, bad, Frame}
use Rattle.net.specs.Search.{State, Halt, refused, is_fresh, with_page, settle, mark_fresh, pred_of, cost_of}
use Rattle.net.specs.Search.{on_choice, on_page, read_for, relax_to, relax, relax_all, visit, choose_on, work_turn}
use Rattle.net.specs.Search.{work_through, plain_visit, df_visit}
use Rattle.net.proofs.Basics.Iterate.{iter_keeps}

pub record Log : Type 0 where
  pub pages : List ℕ
  pub halt : Halt

abbrev pub log_of : State → Log
log_of s = record { pages = s.pages; halt = s.halt }

-- The halt after a page was read: as before, or that page's refusal.
abbrev pub halt_after : Page → ℕ → Halt → Halt
halt_after (good moves) p h = h
halt_after (bad number offset) p h = refused number p offset

-- The list and the halt after page p was read.
abbrev pub log_after : ℕ → Page → State → Log
log_after p content s = record { pages = (with_page p s).pages; halt = halt_after content p s.halt }

pick_log : (b : Bool) (s t r : State) → log_of s ≡ log_of r → log_of t ≡ log_of r → log_of (pick b s t) ≡ log_of r
pick_log true s t r e f = e
pick_log false s t r e f = f

module _ (F : Frame) (less : ℕ → ℕ → Bool) where
  relax_to_log : (u v sum : ℕ) (s : State) → log_of (relax_to F less u v sum s) ≡ log_of s
  relax_to_log u v sum s = pick_log (less sum (cost_of F s v)) _ _ s refl
      (pick_log (eqb sum (cost_of F s v) && ltb u (pred_of s v)) _ _ s refl refl)

  relax_all_log : (u : ℕ) (moves : List Move) (s : State) → log_of (relax_all F less u moves s) ≡ log_of s
  unfolding relax_all relax
  relax_all_log u [] s = refl
  relax_all_log u (m ∷ moves) s = relax_all_log u moves (relax F less u m s) ∙ relax_to_log u m.target
      (cost_of F s u + cost m.time 1) s

  pub visit_log : (moves : ℕ → List Move) (u : ℕ) (s : State) → log_of (visit F less moves u s) ≡ log_of s
  unfolding visit
  visit_log moves u s = relax_all_log u (moves u) (mark_fresh u s)

  turn_log : (moves : ℕ → List Move) (c : Choice) (s : State) → log_of (on_choice (visit F less moves) c s) ≡ log_of s
  turn_log moves Nobody s = refl
  turn_log moves (Station u) s = visit_log moves u s

  pub work_through_log : (p : ℕ) (moves : ℕ → List Move) (s : State) → log_of (work_through F less p moves s) ≡ log_of s
  unfolding work_through work_turn
  work_through_log p moves s = iter_keeps (λ t. log_of t ≡ log_of s) (work_turn F less p moves)
      (λ t e. turn_log moves (choose_on F p t) t ∙ e) F.size s refl

  -- what a page is read for leaves list and halt alone
  abbrev pub Quiet : ((ℕ → List Move) → State → State) → Type 0
  Quiet work = (moves : ℕ → List Move) (s : State) → log_of (work moves s) ≡ log_of s

  -- what each search reads a page for: u's moves, or those and then the whole page
  abbrev pub plain_work : ℕ → (ℕ → List Move) → State → State
  plain_work u moves = relax_all F less u (moves u)

  abbrev pub df_work : ℕ → (ℕ → List Move) → State → State
  df_work u moves s = work_through F less (F.page_of u) moves (visit F less moves u s)

  pub plain_quiet : (u : ℕ) → Quiet (plain_work u)
  plain_quiet u moves s = relax_all_log u (moves u) s

  pub df_quiet : (u : ℕ) → Quiet (df_work u)
  df_quiet u moves s = work_through_log (F.page_of u) moves (visit F less moves u s) ∙ visit_log moves u s

  on_page_log : (work : (ℕ → List Move) → State → State) → Quiet work → (p : ℕ) (content : Page) (s : State)
      → log_of (on_page work p content (with_page p s)) ≡ log_after p content s
  on_page_log work quiet p (good moves) s = quiet moves (with_page p s)
  on_page_log work quiet p (bad number offset) s = refl

  pub read_for_log : (page : ℕ → Page) (work : (ℕ → List Move) → State → State) → Quiet work → (u : ℕ) (s : State)
      → log_of (read_for F page u work s) ≡ log_after (F.page_of u) (page (F.page_of u)) s
  unfolding read_for
  read_for_log page work quiet u s = on_page_log work quiet (F.page_of u) (page (F.page_of u)) (settle u s)

  -- the page that is read is the last in the list
  pub read_lists : (page : ℕ → Page) (work : (ℕ → List Move) → State → State) → Quiet work → (u : ℕ) (s : State)
      → (read_for F page u work s).pages ≡ s.pages ++ (F.page_of u ∷ [])
  read_lists page work quiet u s = ap (λ l. l.pages) (read_for_log page work quiet u s)

  pub plain_lists : (page : ℕ → Page) (u : ℕ) (s : State)
      → (plain_visit F less page u s).pages ≡ s.pages ++ (F.page_of u ∷ [])
  unfolding plain_visit
  plain_lists page u s = read_lists page (plain_work u) (plain_quiet u) u s

  -- the DF step of a fresh station is over once that is settled; of a stale one the page is read
  pub df_fresh : (page : ℕ → Page) (u : ℕ) (s : State) → is_fresh s u ≡ true → df_visit F less page u s ≡ settle u s
  unfolding df_visit
  df_fresh page u s f = simp f

  pub df_stale : (page : ℕ → Page) (u : ℕ) (s : State) → is_fresh s u ≡ false
      → df_visit F less page u s ≡ read_for F page u (df_work u) s
  unfolding df_visit
  df_stale page u s f = simp f
