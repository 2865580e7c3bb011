-- A page is read station by station, and `due` is the slot behind the stations read. By `Placed` it is the slot of the
-- page's next station, or the first slot of the next page if there is none: no look at the directory is needed.
use Rattle.common.proofs.Ground.{◌≡◌, sym, ◌∙◌, dite, List, ℕ, ◌+◌, ◌≤◌, ◌<◌, arith, ℕ_discrete, length, get_or}
use Rattle.layout.specs.Places.{first_slot, slot_of, Placed}
use Rattle.layout.specs.Due.{Due, Next}
use Rattle.layout.proofs.Slots.{slot_on_page}

module _ (directory places : List ℕ) (placed : Placed directory places) (p : ℕ) (page : p < 256) where
  -- a station of the page stands among its slots
  among : (v : ℕ) → v < length directory → get_or directory v 0 ≡ p
      → (first_slot places p ≤ slot_of places v) × (slot_of places v < first_slot places (p + 1))
  among v h on = (rw on at (placed.from_first v h), rw on at (placed.below_next v h))

  pub due_start : Due directory places p 0 (first_slot places p)
  due_start = record {
    low = omega arith;
    high = placed.onward p page;
    behind = λ v h on l. absurd (omega arith);
    ahead = λ v h on l. (among v h on).0;
  }

  -- station v of the page is read, whose slot is due
  pub due_step : (v due : ℕ) → v < length directory → get_or directory v 0 ≡ p → slot_of places v ≡ due
      → Due directory places p (v + 1) (due + 1)
  due_step v due h on is = record {
    low = omega (arith, among v h on);
    high = omega (arith, among v h on);
    behind = λ u k same l.
        dite (ℕ_discrete u v)
        (λ e. rw e (omega arith))
        (λ n. omega (arith, placed.rising u v (omega arith) h (same ∙ sym on)));
    ahead = λ u k same l. omega (arith, placed.rising v u (omega arith) k (on ∙ sym same));
  }

  module _ (after due : ℕ) (read : Due directory places p after due) where
    -- a station of the page that has the slot due is the next one
    due_on_is_next : (v : ℕ) → v < length directory → get_or directory v 0 ≡ p → slot_of places v ≡ due
        → Next directory p after v
    due_on_is_next v h on is = record {
      station = h;
      on = on;
      from = let not_behind : v < after → ⊥ = λ l. omega (arith, read.behind v h on l) in omega arith;
      first = λ u l k same.
          omega (arith, placed.rising u v k h (same ∙ sym on), read.ahead u (omega arith) same l);
    }

    -- so is any station that has the slot due, if that is a slot of the page
    pub due_is_next : (v : ℕ) → v < length directory → get_or directory v 0 < 256 → due < first_slot places (p + 1)
        → slot_of places v ≡ due → Next directory p after v
    due_is_next v h b l is =
        let low = read.low in
        due_on_is_next v h (slot_on_page directory places placed p v page h b (omega arith) (omega arith)) is

    -- below the next page's first slot there is a next station
    pub due_has_next : due < first_slot places (p + 1)
        → (v : ℕ) × Next directory p after v × (slot_of places v ≡ due)
    due_has_next l =
        let found = placed.owner p due page read.low l in
        (found.0, due_on_is_next found.0 found.1 found.2 found.3, found.3)

    -- and the next station has the slot due, which is then one of the page
    pub next_is_due : (v : ℕ) → Next directory p after v → slot_of places v ≡ due
    next_is_due v next =
        let ahead = read.ahead v next.station next.on next.from in
        let found = due_has_next (omega (arith, among v next.station next.on)) in
        let u = found.0 in
        let not-below : u < v → ⊥ = λ l. next.first u found.1.from l found.1.on in
        let not_above : v < u → ⊥ = λ l. found.1.first v next.from l next.on in
        let same : u ≡ v = omega arith in
        rw same at found.2

    -- at the next page's first slot there is none
    pub due_none_left : first_slot places (p + 1) ≤ due → (v : ℕ) → after ≤ v → v < length directory
        → get_or directory v 0 ≡ p → ⊥
    due_none_left l v from h on = omega (arith, among v h on, read.ahead v h on from)
