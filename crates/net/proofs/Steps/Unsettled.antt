-- Settled flags forgotten. Only the choice of whom to settle looks at them: freshness, the first that waits in the DF
-- search, and so relaxing, visits and turns of the page loop are the same without. By arithmetic on one mark, then by
-- following the definitions; for any net.
use Rattle.common.proofs.Ground.{◌≡◌, refl, sym, ◌∙◌, ap, Bool, true, false, ◌&&◌, List, [], ◌∷◌, ℕ, zero, suc, ◌+◌}
use Rattle.common.proofs.Ground.{◌*◌, ◌/◌, ◌%◌, arith, get_or, set, replicate, ltb, eqb}
use Rattle.common.specs.Pick.{pick}
use Rattle.net.specs.declared.Choice.{Choice}
use Rattle.net.specs.declared.Choice.TheVariants.{Station, Nobody}
use Rattle.common.specs.Costs.{cost}
use Rattle.net.specs.Net.{Move, Frame}
use Rattle.net.specs.Search.{State, Halt, going, refused, with_tables, settle, mark_fresh, cost_of, pred_of}
use Rattle.net.specs.Search.{mark_of, is_fresh, start, on_choice, iter, relax_to, relax, relax_all, visit, choose_on}
use Rattle.net.specs.Search.{work_turn}
use Rattle.net.specs.Run.{first_at, first_waiting}
use Rattle.net.proofs.Basics.Least.{least_alike}
use Rattle.net.proofs.Basics.Marks.{marks_fresh_alike}

-- Marks, and a state, without settled flags.
unfoldable pub bare : List ℕ → List ℕ
bare [] = []
bare (m ∷ marks) = m / 2 * 2 ∷ bare marks

abbrev pub unsettle : State → State
unsettle s = with_tables s.costs s.preds (bare s.marks) s

bare_at : (l : List ℕ) (k : ℕ) → get_or (bare l) k 0 ≡ get_or l k 0 / 2 * 2
unfolding bare
bare_at [] k = refl
bare_at (m ∷ l) zero = refl
bare_at (m ∷ l) (suc k) = bare_at l k

bare_set : (l : List ℕ) (i a b : ℕ) → a / 2 * 2 ≡ b → bare (set l i a) ≡ set (bare l) i b
unfolding bare
bare_set [] i a b e = refl
bare_set (m ∷ l) zero a b e = rw e
bare_set (m ∷ l) (suc i) a b e = rw (bare_set l i a b e)

bare_set_same : (l : List ℕ) (i a : ℕ) → a / 2 * 2 ≡ get_or l i 0 / 2 * 2 → bare (set l i a) ≡ bare l
unfolding bare
bare_set_same [] i a e = refl
bare_set_same (m ∷ l) zero a e = rw e
bare_set_same (m ∷ l) (suc i) a e = rw (bare_set_same l i a e)

bare_replicate : (n : ℕ) → bare (replicate n 0) ≡ replicate n 0
unfolding bare
bare_replicate zero = refl
bare_replicate (suc n) = rw (bare_replicate n)

-- settling shows in nothing else, and to mark fresh does not look at the settled flag
pub unsettle_settle : (v : ℕ) (s : State) → unsettle (settle v s) ≡ unsettle s
unsettle_settle v s = rw (bare_set_same s.marks v (mark_of s v / 2 * 2 + 1) (omega arith))

unsettle_fresh : (s : State) (v : ℕ) → is_fresh (unsettle s) v ≡ is_fresh s v
unsettle_fresh s v = rw (bare_at s.marks v)
    (marks_fresh_alike (mark_of s v / 2 * 2) (mark_of s v) (λ h. omega arith) (λ h. omega arith))

unsettle_mark_fresh : (v : ℕ) (s : State) → unsettle (mark_fresh v s) ≡ mark_fresh v (unsettle s)
unsettle_mark_fresh v s = rw (bare_set s.marks v (mark_of s v % 2 + 2) (mark_of (unsettle s) v % 2 + 2)
    (rw (bare_at s.marks v) (omega arith)))

pub unsettle_start : (F : Frame) (source : ℕ) → unsettle (start F source) ≡ start F source
unfolding start
unsettle_start F source = rw (bare_replicate F.size)

unsettle_pick : (b : Bool) (s t s' t' : State) → unsettle s ≡ s' → unsettle t ≡ t'
    → unsettle (pick b s t) ≡ pick b s' t'
unsettle_pick true s t s' t' e f = e
unsettle_pick false s t s' t' e f = f

module _ (F : Frame) where
  pub unsettle_first : (s : State) → first_waiting true F (unsettle s) ≡ first_waiting true F s
  unfolding first_waiting
  unsettle_first s = by_halt s.halt
    where
      by_halt : (h : Halt) → first_at true F h (unsettle s) ≡ first_at true F h s
      by_halt going = least_alike (cost_of F s) _ _ (λ v. rw (unsettle_fresh s v)) F.size
      by_halt (refused number p offset) = refl

  unsettle_choose_on : (p : ℕ) (s : State) → choose_on F p (unsettle s) ≡ choose_on F p s
  unfolding choose_on
  unsettle_choose_on p s = least_alike (cost_of F s) _ _ (λ v. rw (unsettle_fresh s v)) F.size

  unsettle_relax_to : (u v sum : ℕ) (s : State)
      → unsettle (relax_to F ltb u v sum s) ≡ relax_to F ltb u v sum (unsettle s)
  unsettle_relax_to u v sum s = unsettle_pick (ltb sum (cost_of F s v)) _ _ _ _
      (rw (bare_set s.marks v (mark_of s v % 2) (mark_of (unsettle s) v % 2)
      (rw (bare_at s.marks v) (omega arith))))
      (unsettle_pick (eqb sum (cost_of F s v) && ltb u (pred_of s v)) _ _ _ _ refl refl)

  unsettle_relax_all : (u : ℕ) (moves : List Move) (s : State)
      → unsettle (relax_all F ltb u moves s) ≡ relax_all F ltb u moves (unsettle s)
  unfolding relax_all relax
  unsettle_relax_all u [] s = refl
  unsettle_relax_all u (m ∷ moves) s = unsettle_relax_all u moves (relax F ltb u m s)
      ∙ ap (relax_all F ltb u moves) (unsettle_relax_to u m.target (cost_of F s u + cost m.time 1) s)

  module _ (moves : ℕ → List Move) where
    pub unsettle_visit : (u : ℕ) (s : State) → unsettle (visit F ltb moves u s) ≡ visit F ltb moves u (unsettle s)
    unfolding visit
    unsettle_visit u s = unsettle_relax_all u (moves u) (mark_fresh u s)
        ∙ ap (relax_all F ltb u (moves u)) (unsettle_mark_fresh u s)

    unsettle_turn : (p : ℕ) (s : State) → unsettle (work_turn F ltb p moves s) ≡ work_turn F ltb p moves (unsettle s)
    unfolding work_turn
    unsettle_turn p s = by_choice (choose_on F p s)
        ∙ ap (λ c. on_choice (visit F ltb moves) c (unsettle s)) (sym (unsettle_choose_on p s))
      where
        by_choice : (c : Choice)
            → unsettle (on_choice (visit F ltb moves) c s) ≡ on_choice (visit F ltb moves) c (unsettle s)
        by_choice Nobody = refl
        by_choice (Station u) = unsettle_visit u s

    pub unsettle_turns : (p n : ℕ) (s : State)
        → unsettle (iter (work_turn F ltb p moves) n s) ≡ iter (work_turn F ltb p moves) n (unsettle s)
    unfolding iter
    unsettle_turns p zero s = refl
    unsettle_turns p (suc n) s = unsettle_turns p n (work_turn F ltb p moves s)
        ∙ ap (iter (work_turn F ltb p moves) n) (unsettle_turn p s)
