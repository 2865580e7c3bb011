-- What is written at the end of a search that is over: the times, moves and predecessors of the search by the letter,
-- as the cells hold them.
use Rattle.common.proofs.Ground.{◌≡◌, refl, sym, ◌∙◌, ap, ◌≢◌, ⊎_elim, dite, List, map, ℕ, ◌/◌, ◌<◌, arith}
use Rattle.common.proofs.Ground.{ℕ_discrete, length, get_or, true, lt-ltb, ne_eqb}
use lib.ListN.{length-map, get_or-map}
use Rattle.common.specs.Numbers.{no_pred}
use Rattle.common.specs.Costs.{time_in, moves_in, no_cost}
use Rattle.common.proofs.Cases.{le-or-lt}
use Rattle.net.specs.Net.{Frame, Page}
use Rattle.net.specs.Search.{State, time_table, move_table, cost_of, pred_of, has_time, reached}
use Rattle.net.specs.Demands.{Spells, at_source, step}
use Rattle.net.proofs.LeastCosts.{LeastCosts}
use Rattle.net.proofs.Basics.Count.{count_same}
use Rattle.work.specs.Board.{CellIs}
use Rattle.engine.specs.Ending.{CellsHold}
use Rattle.tables.specs.Finishing.{cost_in, pred_in, Shows, Finished}
use Rattle.tables.proofs.Finishing.{shows_all}

-- Only the source is reached without a move.
spelled_by_moves : {F : Frame} {page : ℕ → Page} {source : ℕ} {preds : List ℕ} {v t m : ℕ}
    → Spells F page source preds v t m → v ≢ source → 0 < m
spelled_by_moves (at_source e) other = absurd (other refl)
spelled_by_moves (step v w e goes before) other = omega arith

-- A cell shows the cost and the predecessor that it holds.
cell_shows : (source v held pred cell : ℕ) → CellIs source v held pred cell
    → (v ≢ source → held < no_cost → 0 < held) → (cost_in cell ≡ held) × (pred_in cell ≡ pred)
cell_shows source v held pred cell c late =
    dite (ℕ_discrete v source)
    (λ own. let is = c.own own in rw (is.0, is.1, is.2) (refl, refl))
    (λ other. ⊎_elim
    (λ none. let is = c.untimed other none in rw (is.0, is.1, is.2) (refl, refl))
    (λ has.
    let is = c.timed other has in
    let some = late other has in (
      omega arith,
      rw (ne_eqb cell 0 (λ e. omega arith), lt-ltb (cell / 2048) no_cost (omega arith)) (omega arith),
    ))
    (le-or-lt no_cost held))

-- What is written where a search was over.
module _ (F : Frame) (page : ℕ → Page) (source : ℕ) (none : F.none ≡ no_cost) (s : State)
    (least : LeastCosts F page source s.costs s.preds (reached F s)) {cells t w p m : List ℕ} {r : ℕ}
    (hold : CellsHold F source s cells) (f : Finished true cells F.size t w p m r) where
  entry_shown : (v : ℕ) → v < F.size
      → (cost_in (get_or cells v 0) ≡ cost_of F s v) × (pred_in (get_or cells v 0) ≡ pred_of s v)
  entry_shown v l =
      cell_shows source v (cost_of F s v) (pred_of s v) (get_or cells v 0) (hold v l) (λ other has.
      let way = least.spells v (omega arith) in
      omega (arith, way.is, spelled_by_moves way.spells other))

  -- a part of each cost
  part-written : (part : ℕ → ℕ) {table : List ℕ} → length table ≡ F.size
      → Shows (λ v. part (cost_in (get_or cells v 0))) F.size table → table ≡ map part s.costs
  part-written part {table} size shows =
      shows_all _ table (map part s.costs) F.size (part F.none) size
      (length-map s.costs part ∙ least.sizes.0) shows
      (λ v h. ap part (entry_shown v h).0 ∙ sym (get_or-map part s.costs v F.none))

  pub all_written : length t ≡ F.size → length w ≡ F.size → length p ≡ F.size
      → (t ≡ time_table s) × (w ≡ move_table s) × (p ≡ s.preds) × (r ≡ reached F s)
  unfolding reached
  all_written lt lw lp = (
    part-written time_in lt f.times,
    part-written moves_in lw f.moves,
    shows_all _ p s.preds F.size no_pred lp least.sizes.1 f.preds (λ v h. (entry_shown v h).1),
    f.reached ∙ count_same _ (has_time F s) F.size (λ v l. rw ((entry_shown v l).0, none)),
  )
