-- The least key names the station of least cost, then lowest number, of those that wait: on a page by its slots, of all
-- by the leaves.
use Rattle.common.proofs.Ground.{◌≡◌, refl, sym, ◌∙◌, ap, Bool, true, false, ⊎_elim, List, ℕ, ◌+◌, ◌-◌, ◌%◌, ◌≤◌, ◌<◌}
use Rattle.common.proofs.Ground.{arith, length, get_or, take, drop, length-take, length-drop, get_or-take, get_or-drop}
use Rattle.common.proofs.Ground.{lt-ltb, le-ltb}
use Rattle.common.proofs.Cases.{le-or-lt}
use Rattle.common.specs.Numbers.{nobody}
use Rattle.common.specs.Costs.{no_cost}
use Rattle.net.specs.declared.Choice.{Choice}
use Rattle.net.specs.declared.Choice.TheVariants.{Station, Nobody}
use Rattle.net.specs.Search.{State, going, cost_of}
use Rattle.net.specs.Run.{waits, first_on, first_waiting}
use Rattle.net.proofs.Basics.Least.{Before}
use Rattle.net.proofs.Steps.Waiting.{waits_timed, on_found, on_nobody, first_found, nobody-found}
use Rattle.layout.specs.Places.{first_slot, slot_of}
use Rattle.queue.specs.Keys.{packed, least_in}
use Rattle.queue.specs.Queue.{leaves_of}
use Rattle.queue.proofs.Least.{least_at_most, least-found}
use Rattle.cells.specs.declared.Memory.{Memory}
use Rattle.work.specs.Board.{key_if, least_on, chosen, Serving, frame_of, Board}
use Rattle.work.proofs.Board.{page_end}

-- The least key of some stations below n: at most each one's, and one of theirs unless it is nobody's.
record LeastOf (n : ℕ) (time : ℕ → ℕ) (Some : ℕ → Type 0) (key : ℕ) : Type 0 where
  timed : (v : ℕ) → Some v → time v < no_cost
  most : (v : ℕ) → v < n → Some v → key ≤ packed (time v) v
  found : key < nobody → (v : ℕ) × (v < n) × Some v × (key ≡ packed (time v) v)

-- It names their first.
first_chosen : {n : ℕ} {time : ℕ → ℕ} {Some : ℕ → Type 0} {key : ℕ} → n ≤ 2048 → LeastOf n time Some key → (c : Choice)
    → (((v : ℕ) → v < n → Some v → ⊥) → c ≡ Nobody)
    → ((v : ℕ) → v < n → Some v → ((x : ℕ) → x < n → Some x → Before time v x) → c ≡ Station v) → c ≡ chosen key
first_chosen {key = key} few l c none one = ⊎_elim
    (λ le. rw (le-ltb key nobody le) (none (λ v h some. omega (arith, l.timed v some, l.most v h some))))
    (λ lt.
    let (v, small, some, e) = l.found lt in
    let station : key % 2048 ≡ v = omega arith in
    rw (lt-ltb key nobody lt, station) (one v small some (λ x h other.
    let le = l.most x h other in
    record { low = omega arith; tie = λ late. omega arith })))
    (le-or-lt nobody key)

key_waits : (w : Bool) (time v : ℕ) → key_if w time v < nobody → w ≡ true
key_waits true time v lt = refl
key_waits false time v lt = absurd (omega arith)

module _ {q : Serving} {places : List ℕ} {hand : ℕ} {s : State} {m : Memory} (b : Board q places hand s m) where
  abbrev Waits : ℕ → Type 0
  Waits v = waits q.df (frame_of q) s v ≡ true

  abbrev LeastWaiting : (ℕ → Type 0) → ℕ → Type 0
  LeastWaiting = LeastOf (length q.directory) (cost_of (frame_of q) s)

  -- The keys in the slots of page p.
  module _ (p : ℕ) (l : p < 256) where
    abbrev lo : ℕ
    lo = first_slot places p

    abbrev width : ℕ
    width = first_slot places (p + 1) - lo

    abbrev keys : List ℕ
    keys = take width (drop lo m.waiting)

    keys_size : length keys ≡ width
    keys_size = omega (
      arith,
      length-take width (drop lo m.waiting),
      length-drop lo m.waiting,
      b.placing.placed.most (p + 1) (omega arith),
      b.placing.placed.few,
      b.room.waiting_size,
    )

    key_at : (i : ℕ) → i < width → get_or keys i 0 ≡ get_or m.waiting (lo + i) 0
    key_at i h = rw (get_or-take, get_or-drop)

    on_least : LeastWaiting (λ v. (get_or q.directory v 0 ≡ p) × Waits v) (least_on places m.waiting p)
    on_least = record {
      timed = λ v some. waits_timed q.df (frame_of q) s v some.1;
      most = λ v h some.
          let i = slot_of places v - lo in
          let from = rw some.0 at (b.placing.placed.from_first v h) in
          let below = rw some.0 at (b.placing.placed.below_next v h) in
          let at : lo + i ≡ slot_of places v = omega arith in
          let is = rw at at (key_at i (omega arith)) ∙ (b.station v h).1 in
          omega (arith, least_at_most keys i (omega (arith, keys_size)), rw some.1 at is);
      found = λ lt.
          let f = least-found keys lt in
          let inside : f.place < width = omega (arith, keys_size) in
          let (v, small, on, at) = b.placing.placed.owner p (lo + f.place) l (omega arith)
          (omega (arith, page_end b.placing p l)) in
          let is = sym f.held ∙ key_at f.place inside ∙ ap (λ slot. get_or m.waiting slot 0) (sym at)
          ∙ (b.station v small).1 in
          let w = key_waits (waits q.df (frame_of q) s v) (cost_of (frame_of q) s v) v (rw is at lt) in
          (v, small, (on, w), rw w at is);
    }

    -- The least of them names the first station of the page that waits.
    pub first_on_lem : first_on q.df (frame_of q) p s ≡ chosen (least_on places m.waiting p)
    first_on_lem = first_chosen b.placing.placed.few on_least _
        (λ none. on_nobody q.df (frame_of q) s p (λ v h on w. none v h (on, w)))
        (λ v h some before. on_found q.df (frame_of q) s p v h some.0 some.1
        (λ x k on w. before x k (on, w)))

-- With no page in hand the least leaf names the first of all that wait.
module _ {q : Serving} {places : List ℕ} {s : State} {m : Memory} (b : Board q places 256 s m) where
  abbrev leaves : List ℕ
  leaves = take (leaves_of q.count) m.queue

  leaves_size : length leaves ≡ leaves_of q.count
  leaves_size =
      omega (arith, length-take (leaves_of q.count) m.queue, b.room.groups.size, b.placing.few)

  leaf_at : (p : ℕ) → p < leaves_of q.count → (p < 256) × (get_or leaves p 0 ≡ least_on places m.waiting p)
  leaf_at p l =
      let below : p < 256 = omega (arith, b.placing.few) in
      (below, get_or-take (leaves_of q.count) m.queue p 0 l ∙ b.leaf p below (λ e. omega arith))

  -- below nobody's it is the key of a station that waits, and the least of that station's page
  top_found : least_in leaves < nobody → (v : ℕ) × (v < length q.directory) × (Waits b v)
      × (least_in leaves ≡ packed (cost_of (frame_of q) s v) v)
      × (least_on places m.waiting (get_or q.directory v 0) ≡ least_in leaves)
  top_found lt =
      let f = least-found leaves lt in
      let (l, is) = leaf_at f.place (omega (arith, leaves_size)) in
      let same = sym is ∙ f.held in
      let (v, small, some, e) = (on_least b f.place l).found (rw same lt) in
      (v, small, some.1, sym same ∙ e, rw some.0 same)

  pub top_on_page : least_in leaves < nobody
      → least_on places m.waiting (get_or q.directory (least_in leaves % 2048) 0) ≡ least_in leaves
  top_on_page lt =
      let (v, small, w, e, same) = top_found lt in
      let station : least_in leaves % 2048 ≡ v = omega (arith, b.placing.placed.few) in
      rw station same

  pub first_of_all : s.halt ≡ going → first_waiting q.df (frame_of q) s ≡ chosen (least_in leaves)
  first_of_all g = first_chosen b.placing.placed.few
      (record {
        timed = λ v w. waits_timed q.df (frame_of q) s v w;
        most = λ v h w.
            let p = get_or q.directory v 0 in
            let (l, is) = leaf_at p (omega (arith, b.placing.paged v h)) in
            let le = least_at_most leaves p (omega (arith, leaves_size, b.placing.paged v h)) in
            omega (arith, is, (on_least b p l).most v h (refl, w));
        found = λ lt. let (v, small, w, e, same) = top_found lt in (v, small, w, e);
      })
      _
      (nobody-found q.df (frame_of q) s g)
      (λ v h w before. first_found q.df (frame_of q) s g v (record { inside = h; passes = w; first = before }))
