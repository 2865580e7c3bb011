-- The run on an image: what one reference more leaves, and how the run ends. Where nobody waits, or after a bad page,
-- the state is the end of the net's run, which is the search by the letter.
use Rattle.common.proofs.Ground.{◌≡◌, refl, sym, ◌∙◌, ap, subst, List, [], ◌∷◌, append_assoc, ℕ, suc, ◌+◌, ◌≤◌}
use Rattle.common.proofs.Ground.{◌<◌, arith, add-one, length, get_or, drop, length-append, length-drop, length-set}
use Rattle.common.proofs.Ground.{drop-cons, set_at}
use Rattle.net.specs.declared.Choice.TheVariants.{Nobody}
use Rattle.net.specs.Net.{Frame}
use Rattle.net.specs.Search.{start, iter}
use Rattle.net.specs.Run.{search_of, unmarked, first_waiting}
use Rattle.net.proofs.Steps.Waiting.{nobody_refused}
use Rattle.net.proofs.Runs.{run_is_search, run_stops}
use Rattle.cells.specs.declared.Memory.{Memory}
use Rattle.reference.specs.declared.Query.{Query}
use Rattle.std.specs.Prelude.{Some, None, Ok, Err}
use Rattle.image.specs.declared.BadPage.{BadPage}
use Rattle.image.specs.Image.{fault_number}
use Rattle.map.specs.Map.{map_frame}
use Rattle.work.specs.Board.{Serving}
use Rattle.work.specs.Hand.{state_after}
use Rattle.reference.specs.Standing.{serving, Underway, Lists, Referred}
use Rattle.engine.specs.Ending.{Listed, EndedAs, EndedOn}

-- After k references, with the list as it was before the first of them.
pub record RunSoFar (query : Query) (image : List ℕ) (k : ℕ) (places layout : List ℕ) (m : Memory)
    (before list : List ℕ) : Type 0 where
  pub underway : Underway query image k places layout m list
  pub listed : Listed (state_after (serving query image) k) before list k
  pub few : k ≤ 2048

pub run_start : {query : Query} {image places layout list : List ℕ} {m : Memory}
    → Underway query image 0 places layout m list → RunSoFar query image 0 places layout m list list
unfolding iter start
run_start u = record { underway = u; listed = (refl, refl); few = omega arith }

module _ (query : Query) {k : ℕ} {image places layout before list : List ℕ} {m : Memory}
    (g : RunSoFar query image k places layout m before list) where
  abbrev q : Serving
  q = serving query image

  abbrev F : Frame
  F = map_frame image

  -- One reference more.
  listed_more : {p : ℕ} {list' : List ℕ} → Lists q k p list list' → Listed (state_after q (suc k)) before list' (suc k)
  listed_more {p} next =
      let pages = (state_after q k).pages in
      let (count, front) = g.listed in
      let inside : k < length before =
      omega (arith, next.inside, g.underway.room, simp (length-append, length-drop) at (ap length front)) in (
        omega (arith, simp length-append at (ap length next.pages)),
        next.list ∙ rw (next.pages, front, drop-cons before k 0 inside, append_assoc pages (p ∷ []))
            (set_at pages (get_or before k 0) (drop (suc k) before) p k count),
      )

  pub run_more : {p : ℕ} {layout' list' : List ℕ} {m' : Memory}
      → Referred query image k places layout' m' list list' (Ok (Some p))
      → RunSoFar query image (k + 1) places layout' m' before list'
  run_more (stands, known, next) = rw (add-one k) (record {
    underway = record {
      formed = g.underway.formed;
      known = known;
      stands = stands;
      room = rw (next.list, length-set) g.underway.room;
    };
    listed = listed_more next;
    few = omega (arith, next.inside, stands.board.placing.placed.few);
  })

  -- The end of the run, where nobody waits or after a bad page, is the search by the letter but for the marks.
  ended : (j : ℕ) → first_waiting q.df F (state_after q j) ≡ Nobody
      → unmarked (state_after q j) ≡ unmarked (search_of q.df F q.page q.source)
  ended j none =
      let ok = g.underway.stands.board.placing.sound in
      ap unmarked (run_stops ok q.df j none) ∙ sym (run_is_search ok q.df)

  pub nobody_ends : {list' : List ℕ} {m' : Memory} → Referred query image k places layout m' list list' (Ok None)
      → EndedOn query image m'.cells before list' (record { count = k; outcome = Ok tt })
  nobody_ends {list'} {m'} (none, stands, same) =
      subst (λ t. EndedAs F q.source t m'.cells before list' k (Ok tt)) (ended k none)
      (stands.going, (g.listed.0, same ∙ g.listed.1), λ v h. (stands.board.station v h).0)

  pub bad_ends : (cells : List ℕ) (bad : BadPage) {list' : List ℕ}
      → Referred query image k places layout m list list' (Err bad)
      → EndedOn query image cells before list' (record { count = k + 1; outcome = Err bad })
  bad_ends cells bad {list'} (halted, next) = rw (add-one k)
      (subst (λ t. EndedAs F q.source t cells before list' (suc k) (Err bad))
      (ended (suc k) (nobody_refused q.df F (state_after q (suc k)) (fault_number bad.fault) bad.page bad.offset halted))
      (halted, listed_more next))
