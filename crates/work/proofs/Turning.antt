-- The work on a page. Each turn visits the station of least key: it stops waiting, and its row is relaxed move by move,
-- as the net relaxes its moves. It ends where the turns are made or nobody waits on the page, which is the state after
-- one reference more.
use Rattle.common.proofs.Ground.{◌≡◌, refl, sym, ◌∙◌, ap, ◌⊎◌, inl, inr, dite, List, [], ◌∷◌, ◌++◌, append_assoc}
use Rattle.common.proofs.Ground.{append-nil, Memᴰ-head, Memᴰ-append_right, ℕ, suc, ◌+◌, ◌-◌, ◌/◌, ◌%◌, ◌≤◌, ◌<◌}
use Rattle.common.proofs.Ground.{arith, ℕ_discrete, length, get_or, set, take, drop, ltb, lt-ltb, le-ltb}
use Rattle.common.specs.Numbers.{nobody}
use Rattle.common.specs.Costs.{cost}
use Rattle.net.specs.declared.Choice.TheVariants.{Station}
use Rattle.net.specs.Net.{Move, Frame, Goes}
use Rattle.net.specs.Search.{State, cost_of, relax, relax_all}
use Rattle.net.specs.Run.{stop_waiting, first_on, turn_limit, visit_of}
use Rattle.net.proofs.Sound.{Sound}
use Rattle.net.proofs.Relaxing.Relax.{relax_relaxed, relax_all_last}
use Rattle.net.proofs.Runs.{visit-move, visit_time, visit_standing, visit_on, visit-inside, visit_stops, visit_timed}
use Rattle.net.proofs.Runs.{hand_turn, hand_made, hand_stops, hand_going}
use Rattle.layout.specs.Places.{first_slot, slot_of, Placed}
use Rattle.layout.specs.Rows.{entry_of, row_of, Laid}
use Rattle.queue.specs.Keys.{least_in}
use Rattle.queue.specs.Queue.{Put}
use Rattle.cells.specs.declared.Memory.{Memory}
use Rattle.cells.specs.Cells.{memory, Room, Relaxed, most_cost, PlacedAt}
use Rattle.relax.specs.Visits.{Relaxing, none, more, without_waiting, Visited, LaidOut, Targets, longest}
use Rattle.work.specs.Board.{least_on, chosen, Serving, frame_of, Board}
use Rattle.work.specs.Hand.{state_after, Stands, rows_of, Hand}
use Rattle.work.proofs.Board.{placed_at, relaxed_board, stopped_board, left_board}
use Rattle.work.proofs.Choosing.{first_on_lem}

-- The least key's station u, which has stopped waiting in its slot; and page p's leaf, set then.
pub record LeafSet (places : List ℕ) (p least : ℕ) (m : Memory) (u slot : ℕ) (queue : List ℕ) : Type 0 where
  pub named : u ≡ least % 2048
  pub slotted : slot ≡ slot_of places u
  pub put : Put m.queue p (least_on places (set m.waiting slot nobody) p) queue

pub leaf_put : (places waiting : List ℕ) {before queue : List ℕ} {p lo hi next : ℕ} → lo ≡ first_slot places p
    → hi ≡ first_slot places (p + 1) → next ≡ least_in (take (hi - lo) (drop lo waiting)) → Put before p next queue
    → Put before p (least_on places waiting p) queue
leaf_put places waiting low high found put = rw (found, high, low) at put

module _ {q : Serving} {k p left least : ℕ} {places layout : List ℕ} {m : Memory}
    (h : Hand q k p places layout left least m) where
  abbrev F : Frame
  F = frame_of q

  abbrev d : Placed q.directory places
  d = h.board.placing.placed

  abbrev ok : Sound F q.page q.source
  ok = h.board.placing.sound

  first-is : first_on q.df F p h.state ≡ chosen least
  first-is = first_on_lem h.board p h.page ∙ ap chosen (sym h.key)

  -- Another turn.
  module _ (again : 0 < left) (somebody : least < nobody) where
    abbrev x : ℕ
    x = least % 2048

    abbrev held : ℕ
    held = cost_of F h.state x

    abbrev stopped : State
    stopped = stop_waiting q.df x h.state

    first_x : first_on q.df F p h.state ≡ Station x
    first_x = first-is ∙ simp (lt-ltb least nobody somebody)

    turns_more : h.turns < turn_limit q.df F
    turns_more = omega (arith, h.count)

    inside : x < length q.directory
    inside = visit-inside ok h.in_hand first_x

    on : get_or q.directory x 0 ≡ p
    on = visit_on ok h.in_hand first_x

    laid : Laid layout p x (rows_of (h.moves x))
    laid = h.rows x inside on

    in_cell : get_or m.cells x 0 / 2048 ≡ held
    in_cell =
        let c = (h.board.station x inside).0 in
        let timed = visit_timed ok h.in_hand first_x in
        dite (ℕ_discrete x q.source) (λ e. omega (arith, (c.own e).0, (c.own e).2))
        (λ n. omega (arith, (c.timed n timed).0, (c.timed n timed).1))

    -- a move of its row, of which those before are relaxed
    module _ (before rest : List Move) (next : Move) (split : h.moves x ≡ before ++ (next ∷ rest)) where
      abbrev part : State
      part = relax_all F ltb x before stopped

      leads : next.target < length q.directory
      leads = (visit-move ok h.in_hand first_x turns_more before rest next split).target

      target : entry_of next.time next.target % 2048 ≡ next.target
      target = omega (arith, leads, d.few)

      move_board : {hand : ℕ} {a b : Memory} → Board q places hand part a
          → Relaxed places x (entry_of next.time next.target % 2048)
          (held + cost (entry_of next.time next.target / 2048) 1) a b
          → Board q places hand (relax F ltb x next part) b
      move_board board r =
          let n = visit-move ok h.in_hand first_x turns_more before rest next split in
          let same = visit_time ok h.in_hand first_x turns_more before (next ∷ rest) split in
          let standing = visit_standing ok h.in_hand first_x turns_more before (next ∷ rest) split in
          let net = rw same at (relax_relaxed F x next part standing.sizes leads) in
          let goes : Goes F q.page x next.target next.time =
          rw (on, h.in_hand.content, split) (Memᴰ-append_right before (Memᴰ-head refl)) in
          let takes : entry_of next.time next.target / 2048 ≡ next.time = omega (arith, leads, d.few) in
          relaxed_board board (omega arith) leads (omega arith) n.sum_below net n.wakes
          (rw (target, takes) at r)

    visit_board : (before rest : List Move) → h.moves x ≡ before ++ rest → {hand : ℕ} {a b : Memory}
        → Board q places hand (relax_all F ltb x before stopped) a → Relaxing places x held (rows_of rest) a b
        → Board q places hand (relax_all F ltb x (h.moves x) stopped) b
    visit_board before [] split board none = rw (split, append-nil) board
    visit_board before (next ∷ rest) split board (more r relaxing) =
        visit_board (before ++ (next ∷ [])) rest (split ∙ sym (append_assoc before (next ∷ []) rest))
        (rw relax_all_last (move_board before rest next split board r)) relaxing

    targets : (before rest : List Move) → h.moves x ≡ before ++ rest → Targets places (rows_of rest)
    targets before [] split = tt
    targets before (next ∷ rest) split = (
      rw (target before rest next split) (placed_at h.board.placing next.target (leads before rest next split)),
      targets (before ++ (next ∷ [])) rest (split ∙ sym (append_assoc before (next ∷ []) rest)),
    )

    -- What a visit asks.
    small : x < 2048
    small = omega (arith, inside, d.few)

    pub place : PlacedAt places x
    place = placed_at h.board.placing x inside

    costs : get_or m.cells x 0 / 2048 + longest < most_cost
    costs = let timed = visit_timed ok h.in_hand first_x in let is = in_cell in omega arith

    row : LaidOut places layout x
    row = record {
      size = h.size;
      within = omega (arith, laid.ends, h.page);
      targets = rw laid.entries (targets [] (h.moves x) refl);
    }

    pub turn_asks : (x < 2048) × ((get_or m.cells x 0 / 2048 + longest < most_cost)
        × (Room places m × (PlacedAt places x × LaidOut places layout x)))
    turn_asks = (small, (costs, (h.board.room, (place, row))))

    -- The station stops waiting, and its moves are relaxed.
    stopped_stands : Board q places p stopped (without_waiting places x m)
    stopped_stands = stopped_board h.board inside on (visit_stops ok h.in_hand first_x)

    pub turned : {after : Memory} {u lo hi least' : ℕ} → u ≡ x → Visited places layout u m after
        → lo ≡ first_slot places p → hi ≡ first_slot places (p + 1)
        → least' ≡ least_in (take (hi - lo) (drop lo after.waiting))
        → Hand q k p places layout (left - 1) least' after
    unfolding visit_of relax_all
    turned e visited low high found = record {
      moves = h.moves;
      turns = suc h.turns;
      state = visit_of q.df F h.moves x h.state;
      in_hand = hand_turn ok h.in_hand first_x turns_more;
      count = omega (arith, h.count);
      size = h.size;
      page = h.page;
      rows = h.rows;
      board = visit_board [] (h.moves x) refl stopped_stands (rw (e, in_cell, laid.entries) at visited.relaxing);
      key = found ∙ rw (low, high);
    }

    -- The same where the page is left in between: its leaf is set, and then the moves are relaxed.
    module _ {u slot : ℕ} {queue : List ℕ} (leaf : LeafSet places p least m u slot queue) where
      abbrev left_stopped : Memory
      left_stopped = memory m.cells (set m.waiting slot nobody) queue

      stopped_left : Board q places 256 stopped left_stopped
      stopped_left =
          let slot_is : slot ≡ slot_of places x = rw leaf.named at leaf.slotted in
          rw slot_is (left_board stopped_stands h.page (rw slot_is at leaf.put))

      pub last_asks : (u < 2048) × ((get_or m.cells u 0 / 2048 + longest < most_cost)
          × (Room places left_stopped × LaidOut places layout u))
      last_asks = rw leaf.named (small, (costs, (stopped_left.room, row)))

      pub last_turn : left ≡ 1 → {after : Memory}
          → Relaxing places u (get_or m.cells u 0 / 2048) (row_of layout u) left_stopped after
          → Stands q (suc k) places after
      unfolding visit_of relax_all
      last_turn one relaxing =
          let hand = hand_turn ok h.in_hand first_x turns_more in
          let same = hand_made ok hand (omega (arith, h.count)) in
          let moves = rw (leaf.named, in_cell, laid.entries) at relaxing in
          record {
            going = rw same at (hand_going ok hand);
            board = rw same at (visit_board [] (h.moves x) refl stopped_left moves);
          }

  -- No turn is left, or nobody waits.
  pub over : {queue : List ℕ} → (left ≡ 0) ⊎ (nobody ≤ least) → Put m.queue p least queue
      → Stands q (suc k) places (memory m.cells m.waiting queue)
  over {queue} e put =
      let same = reached e in
      record {
        going = rw same at (hand_going ok h.in_hand);
        board = rw same at (left_board h.board h.page (rw h.key at put));
      }
    where
      reached : (left ≡ 0) ⊎ (nobody ≤ least) → h.state ≡ state_after q (suc k)
      reached (inl none_left) = hand_made ok h.in_hand (omega (arith, h.count))
      reached (inr nobody_left) = hand_stops ok h.in_hand (first-is ∙ simp (le-ltb least nobody nobody_left))
