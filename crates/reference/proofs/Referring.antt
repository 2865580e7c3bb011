-- One reference on an image. The least key of all names the first station that waits, or nobody does. A good page's
-- rows are the moves that the net's page offers, so that it can be taken in hand; a bad one ends the search.
use Rattle.common.proofs.Ground.{◌≡◌, refl, sym, ◌∙◌, ap, List, [], ◌∷◌, map, ℕ, suc, ◌%◌, ◌≤◌, ◌<◌, arith}
use Rattle.common.proofs.Ground.{length, get_or, set, take, lt-ltb, le-ltb}
use Rattle.common.specs.Numbers.{nobody}
use Rattle.net.specs.declared.Choice.TheVariants.{Station, Nobody}
use Rattle.net.specs.Net.{Move as NetMove}
use Rattle.net.specs.Search.{refused, with_page}
use Rattle.net.specs.Run.{turn_limit, first_waiting}
use Rattle.net.proofs.Steps.Waiting.{first_lowest}
use Rattle.net.proofs.Runs.{reference-inside, reference-listed, reference_bad, hand_begins}
use Rattle.commands.specs.declared.Move.{Move}
use Rattle.page.specs.Reading.{reading_of, moves_in, bad}
use Rattle.page.specs.Open.{open_to}
use Rattle.page.specs.Laying.{row_for}
use Rattle.layout.specs.Places.{page_at}
use Rattle.layout.specs.Rows.{entry_of}
use Rattle.queue.specs.Keys.{least_in}
use Rattle.queue.specs.Queue.{leaves_of}
use Rattle.cells.specs.declared.Memory.{Memory}
use Rattle.reference.specs.declared.Query.{Query}
use Rattle.work.specs.Board.{least_on, chosen, Serving, frame_of}
use Rattle.map.specs.Map.{map_frame, net_move, offered, map_page}
use Rattle.work.specs.Hand.{state_after, Stands, rows_of, Hand}
use Rattle.reference.specs.Standing.{PageKnown, Known, serving, Lists}
use Rattle.work.proofs.Board.{taken_board}
use Rattle.work.proofs.Choosing.{first_of_all, top_on_page}

-- The station u to which the net's run refers next, and its page p.
pub record Next (q : Serving) (k : ℕ) (places : List ℕ) (m : Memory) (key u p : ℕ) : Type 0 where
  pub stands : Stands q k places m
  pub first : first_waiting q.df (frame_of q) (state_after q k) ≡ Station u
  pub inside : u < length q.directory
  pub on : get_or q.directory u 0 ≡ p
  pub below : p < 256
  pub count : k < length q.directory
  pub least : key ≡ least_on places m.waiting p

-- With the memory standing for the state after k references, by the least key of all.
module _ {q : Serving} {k key : ℕ} {places : List ℕ} {m : Memory} (s : Stands q k places m)
    (is : key ≡ least_in (take (leaves_of q.count) m.queue)) where
  first-is : first_waiting q.df (frame_of q) (state_after q k) ≡ chosen key
  first-is = first_of_all s.board s.going ∙ ap chosen (sym is)

  pub nobody_first : nobody ≤ key → first_waiting q.df (frame_of q) (state_after q k) ≡ Nobody
  nobody_first h = first-is ∙ simp (le-ltb key nobody h)

  pub next_station : key < nobody → {u p : ℕ} → u ≡ key % 2048 → p ≡ page_at places u → Next q k places m key u p
  next_station somebody {u} {p} named paged =
      let first : first_waiting q.df (frame_of q) (state_after q k) ≡ Station u =
      rw named (first-is ∙ simp (lt-ltb key nobody somebody)) in
      let inside = (first_lowest q.df (frame_of q) (state_after q k) u first).1.inside in
      let on = sym (paged ∙ s.board.placing.placed.page u inside) in
      record {
        stands = s;
        first = first;
        inside = inside;
        on = on;
        below = omega (arith, s.board.placing.bytes u);
        count = reference-inside s.board.placing.sound q.df k first;
        least = sym (rw (← is, ← named, on) at (top_on_page s.board (rw is at somebody)));
      }

-- The rows of a page's moves are those of the net's.
same_entries : (moves : List Move)
    → map (λ (m : Move). entry_of m.time m.target) moves ≡ rows_of (map net_move moves)
same_entries [] = refl
same_entries (m ∷ moves) = ap (λ rest. entry_of m.time m.target ∷ rest) (same_entries moves)

same_rows : (strip : ℕ) (moves : List Move) → row_for strip moves ≡ rows_of (map net_move (open_to strip moves))
same_rows strip moves = same_entries (open_to strip moves)

-- Its page is listed; a good one is taken in hand, and a bad one ends the search.
pub lists : {q : Serving} {k key u p : ℕ} {places : List ℕ} {m : Memory} → Next q k places m key u p → {before : List ℕ}
    → Lists q k p before (set before k p)
lists {q} {k} n = record {
  inside = n.count;
  pages = rw n.on at (reference-listed n.stands.board.placing.sound q.df k n.first);
  list = refl;
}

module _ (query : Query) (image : List ℕ) {k key u p : ℕ} {places : List ℕ} {m : Memory}
    (n : Next (serving query image) k places m key u p) where
  pub hand_image : {layout : List ℕ} {turns : ℕ}
      → Known query.strip image layout × PageKnown query.strip image p layout
      → turns ≡ turn_limit query.df (map_frame image) → Hand (serving query image) k p places layout turns key m
  unfolding map_page
  hand_image {layout} (known, laid) limit =
      let moves : ℕ → List NetMove = λ v. map net_move (open_to query.strip (moves_in laid.stations v)) in
      record {
        moves = moves;
        turns = 0;
        state = with_page p (state_after (serving query image) k);
        in_hand = rw n.on at (hand_begins n.stands.board.placing.sound query.df k n.first moves
            (rw n.on (ap (offered query.strip) laid.reads)));
        count = omega arith;
        size = known.size;
        page = n.below;
        rows = λ v h at. rw same_rows at (laid.laid v h at);
        board = taken_board p n.stands.board;
        key = n.least;
      }

  pub refused_image : {number offset : ℕ} → reading_of image p ≡ bad number offset
      → (state_after (serving query image) (suc k)).halt ≡ refused number p offset
  unfolding map_page
  refused_image {number} {offset} e =
      let ok = n.stands.board.placing.sound in
      rw n.on at (ap (λ t. t.halt) (reference_bad ok query.df k n.first number offset
      (rw n.on (ap (offered query.strip) e))))
