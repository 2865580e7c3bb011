-- A relaxed move on the working memory: the lesser of two cells is document 01's rule, the lesser of two keys makes the
-- lowered station wait, and no other station and no other page notices. And the other steps: a station stops waiting, a
-- page is taken in hand, and it is left.
use Rattle.common.proofs.Ground.{◌≡◌, refl, sym, ◌∙◌, ap, Bool, true, false, ◌||◌, not, ◌&&◌, ◌≢◌, ⊎_elim, dite, List}
use Rattle.common.proofs.Ground.{ℕ, ◌+◌, ◌-◌, ◌/◌, ◌≤◌, ◌<◌, min, arith, dec_lt, ℕ_discrete, length, get_or, set, eqb, ltb}
use Rattle.common.proofs.Ground.{get_or-set_same, get_or-set_other, ltb-true, ltb-false, lt-ltb, eq-eqb, ne_eqb}
use Rattle.common.proofs.Cases.{le-or-lt}
use Rattle.common.specs.Numbers.{nobody}
use Rattle.common.specs.Costs.{no_cost}
use Rattle.common.specs.Pick.{pick}
use Rattle.net.specs.Search.{State, cost_of, pred_of, with_page}
use Rattle.net.specs.Run.{waits, stop_waiting}
use Rattle.net.proofs.Relaxing.Relax.{Relaxed as NetRelaxed, Kind, lowered, tied, kept}
use Rattle.net.proofs.Steps.Waiting.{waits-listing}
use Rattle.layout.specs.Places.{first_slot, slot_of, page_at, Placed}
use Rattle.layout.proofs.Slots.{slot_below, slot_on_page, same_slot}
use Rattle.queue.specs.Keys.{packed}
use Rattle.queue.specs.Queue.{Put}
use Rattle.queue.proofs.Least.{least_before, least_behind, least_lowered}
use Rattle.cells.specs.declared.Memory.{Memory}
use Rattle.cells.specs.Cells.{memory, Relaxed, PlacedAt}
use Rattle.relax.specs.Visits.{without_waiting}
use Rattle.cells.proofs.Relaxed.{relaxed_room, relaxed_cell, relaxed_other, relaxed_waits, relaxed_waits_other}
use Rattle.cells.proofs.Relaxed.{room_waiting}
use Rattle.work.specs.Board.{CellIs, key_if, least_on, Serving, frame_of, Placing, Leaves, Board}

-- One station's cell, and the cost and predecessor that a move from u offers it.
module _ {source v time pred cell : ℕ} (c : CellIs source v time pred cell) (u sum : ℕ) (from : u < 2048)
    (some : 0 < sum) (fits : sum < no_cost) where
  -- the cost in the cell is its own, or above every sum
  cost_test : ltb sum (cell / 2048) ≡ ltb sum time
  cost_test = dite (ℕ_discrete v source)
      (λ e. rw ((c.own e).0, (c.own e).2))
      (λ n. ⊎_elim
      (λ none. rw ((c.untimed n none).0, (c.untimed n none).2) (lt-ltb sum _ (omega arith) ∙ sym (lt-ltb sum _ fits)))
      (λ has. ap (ltb sum) (omega (arith, (c.timed n has).0, (c.timed n has).1)))
      (le-or-lt no_cost time))

  -- the lesser cell is the one offered, or has the cost that there was
  cell_lowered : sum < time → CellIs source v sum u (min cell (packed sum u))
  cell_lowered l =
      let above : sum < cell / 2048 = ltb-true _ _ (cost_test ∙ lt-ltb sum time l) in
      record {
        own = λ e. absurd (omega (arith, (c.own e).0));
        timed = λ n h. (from, omega arith);
        untimed = λ n h. absurd (omega arith);
      }

  cell_stays : {pred' : ℕ} → time ≤ sum → (sum ≡ time → pred' ≡ min pred u) → (time < sum → pred' ≡ pred)
      → CellIs source v time pred' (min cell (packed sum u))
  cell_stays le tie later = record {
    own = λ e. ((c.own e).0, later (omega (arith, (c.own e).0)) ∙ (c.own e).1, omega (arith, (c.own e).2));
    timed = λ n h.
        let (low, is) = c.timed n h in
        ⊎_elim (λ ge. (omega (arith, tie (omega arith)), omega (arith, tie (omega arith))))
        (λ lt. (omega (arith, later lt), omega (arith, later lt))) (le-or-lt sum time);
    untimed = λ n h. absurd (omega arith);
  }

-- The lesser of a station's key and of the one that a sum offers, by whether the sum is less, and whether it waits.
key_after : (less w : Bool) (sum time v : ℕ) {time' : ℕ} → ltb sum time ≡ less → time' ≡ min sum time → sum < no_cost
    → v < 2048 → min (key_if w time v) (pick less (packed sum v) nobody) ≡ key_if (less || w) time' v
key_after true true sum time v e is fits small = omega (arith, ltb-true sum time e)
key_after true false sum time v e is fits small = omega (arith, ltb-true sum time e)
key_after false true sum time v e is fits small = omega (arith, ltb-false sum time e)
key_after false false sum time v e is fits small = omega arith

-- The least keys of the pages, where one slot is written.
module _ {q : Serving} {places : List ℕ} (placing : Placing q places) where
  abbrev d : Placed q.directory places
  d = placing.placed

  -- A station of a placed directory has a slot and a page, and no other station has its slot.
  pub placed_at : (v : ℕ) → v < length q.directory → PlacedAt places v
  placed_at v h = record {
    slot = slot_below _ _ d v h (placing.bytes v);
    page = omega (arith, d.page v h, placing.bytes v);
  }

  pub other_slot : (x v : ℕ) → x < length q.directory → v < length q.directory → x ≢ v
      → slot_of places x ≢ slot_of places v
  other_slot x v h k n e = n (same_slot _ _ d x v h k (placing.bytes x) (placing.bytes v) e)

  pub page_end : (p : ℕ) → p < 256
      → first_slot places p + (first_slot places (p + 1) - first_slot places p) ≡ first_slot places (p + 1)
  page_end p h = omega (arith, d.onward p h)

  -- a key set in the slot of a station on another page does not change the least key of page p
  pub least_elsewhere : (waiting : List ℕ) (v p x : ℕ) → p < 256 → v < length q.directory
      → get_or q.directory v 0 ≢ p → least_on places (set waiting (slot_of places v) x) p ≡ least_on places waiting p
  least_elsewhere waiting v p x h to off = dite (dec_lt (slot_of places v) (first_slot places p))
      (λ before. rw least_before)
      (λ low. ⊎_elim
      (λ past. least_behind waiting _ x _ _ (rw (← (page_end p h)) at past))
      (λ within. absurd (off (slot_on_page _ _ d p v h to (placing.bytes v) (omega arith) within)))
      (le-or-lt (first_slot places (p + 1)) (slot_of places v)))

  -- a relaxed move leaves the least keys in the leaves
  pub relaxed_leaves : {hand u v sum : ℕ} {m m' : Memory} → v < length q.directory → length m.waiting ≡ 2048
      → Relaxed places u v sum m m' → Leaves places hand m → Leaves places hand m'
  relaxed_leaves {v = v} {m = m} to size r leaf p h off = dite (ℕ_discrete (page_at places v) p)
      (λ on.
      let here : get_or q.directory v 0 ≡ p = sym (d.page v to) ∙ on in
      let within : first_slot places (p + 1) ≤ length m.waiting =
      omega (arith, d.most (p + 1) (omega arith), d.few) in
      let inside = rw (← (page_end p h)) at within in
      let first = rw here at (d.from_first v to) in
      let next = rw (here, ← (page_end p h)) at (d.below_next v to) in
      rw (r.waits, least_lowered, ← (leaf p h off)) (rw on at r.leaf.same))
      (λ n. r.leaf.other p h (λ e. n (sym e)) ∙ leaf p h off
      ∙ sym (rw r.waits (least_elsewhere m.waiting v p _ h to (λ e. n (d.page v to ∙ e)))))

stopped_tables : (df : Bool) (u : ℕ) (s : State)
    → ((stop_waiting df u s).costs ≡ s.costs) × ((stop_waiting df u s).preds ≡ s.preds)
stopped_tables true u s = (refl, refl)
stopped_tables false u s = (refl, refl)

module _ {q : Serving} {places : List ℕ} {hand : ℕ} {s : State} {m : Memory} (b : Board q places hand s m) where
  -- A relaxed move, of which the net says what it does to its target's cost and predecessor, and who waits then.
  module _ {u v sum : ℕ} {t : State} {m' : Memory} (from : u < 2048) (to : v < length q.directory) (some : 0 < sum)
      (fits : sum < no_cost) (net : NetRelaxed (frame_of q) u v sum s t)
      (wakes : (x : ℕ) → waits q.df (frame_of q) t x
      ≡ ((eqb x v && ltb sum (cost_of (frame_of q) s x)) || waits q.df (frame_of q) s x))
      (r : Relaxed places u v sum m m') where
    abbrev time : ℕ
    time = cost_of (frame_of q) s v

    cell_after : Kind (frame_of q) u v sum s t → (cost_of (frame_of q) t v ≡ min sum time)
        × CellIs q.source v (cost_of (frame_of q) t v) (pred_of t v) (min (get_or m.cells v 0) (packed sum u))
    cell_after (lowered l et ep ef) =
        (omega arith, rw (et, ep) (cell_lowered (b.station v to).0 u sum from some fits l))
    cell_after (tied e l et ep ef) = (
      omega arith,
      rw (et, ep) (cell_stays (b.station v to).0 u sum from some fits (omega arith) (λ _. omega arith)
          (λ lt. absurd (omega arith))),
    )
    cell_after (kept l low same) = (
      omega (arith, same.time),
      rw (same.time, same.pred) (cell_stays (b.station v to).0 u sum from some fits l
          (λ e. omega (arith, low e)) (λ _. refl)),
    )

    pub relaxed_board : Board q places hand t m'
    relaxed_board =
        let small : v < 2048 = omega (arith, b.placing.placed.few) in
        let (time_is, cell-is) = cell_after net.kind in
        record {
          placing = b.placing;
          room = relaxed_room r b.room;
          station = λ x h. dite (ℕ_discrete x v)
              (λ e. rw (e, relaxed_cell r b.room small, relaxed_waits r b.room (placed_at b.placing v to)) (
                cell-is,
                rw ((b.station v to).1, cost_test (b.station v to).0 u sum from some fits, wakes v, eq-eqb v v refl)
                    (key_after (ltb sum time) _ sum time v refl time_is fits small),
              ))
              (λ n. rw (
                relaxed_other r x n,
                relaxed_waits_other r _ (other_slot b.placing x v h to n),
                wakes x,
                ne_eqb x v n,
                (net.others x n).time,
                (net.others x n).pred,
              ) (b.station x h));
          leaf = relaxed_leaves b.placing to b.room.waiting_size r b.leaf;
        }

  -- The page in hand is that of station u, which stops waiting.
  pub stopped_board : {u : ℕ} → u < length q.directory → get_or q.directory u 0 ≡ hand
      → ((x : ℕ) → waits q.df (frame_of q) (stop_waiting q.df u s) x
      ≡ (not (eqb x u) && waits q.df (frame_of q) s x))
      → Board q places hand (stop_waiting q.df u s) (without_waiting places u m)
  stopped_board {u} to on stops =
      let (times, preds) = stopped_tables q.df u s in
      let slot : slot_of places u < length m.waiting = omega (arith, placed_at b.placing u to, b.room) in
      record {
        placing = b.placing;
        room = room_waiting _ _ b.room;
        station = λ x h. dite (ℕ_discrete x u)
            (λ e. rw (e, stops u, eq-eqb u u refl, times, preds) ((b.station u to).0, rw get_or-set_same))
            (λ n.
            let other = other_slot b.placing x u h to n in
            rw (stops x, ne_eqb x u n, times, preds, get_or-set_other) (b.station x h));
        leaf = λ p h off. b.leaf p h off
            ∙ sym (least_elsewhere b.placing m.waiting u p nobody h to (λ e. off (sym e ∙ on)));
      }

  -- A page is left, with its least key in its leaf.
  pub left_board : {queue : List ℕ} → hand < 256 → Put m.queue hand (least_on places m.waiting hand) queue
      → Board q places 256 s (memory m.cells m.waiting queue)
  left_board l put = record {
    placing = b.placing;
    room = record {
      places_size = b.room.places_size;
      cells_size = b.room.cells_size;
      waiting_size = b.room.waiting_size;
      groups = put.groups;
    };
    station = b.station;
    leaf = λ p h off. dite (ℕ_discrete p hand) (λ e. rw e put.same) (λ n. put.other p h n ∙ b.leaf p h n);
  }

-- A page is listed and taken in hand; its leaf may be anything then.
pub taken_board : {q : Serving} {places : List ℕ} {s : State} {m : Memory} (p : ℕ) → Board q places 256 s m
    → Board q places p (with_page p s) m
taken_board {q} {s = s} p b = record {
  placing = b.placing;
  room = b.room;
  station = λ v h. rw (waits-listing (frame_of q) s _ _ q.df v) (b.station v h);
  leaf = λ x h off. b.leaf x h (λ e. omega arith);
}
