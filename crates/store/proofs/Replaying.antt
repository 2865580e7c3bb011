-- The replay of a list, reference by reference.
use Rattle.common.proofs.Ground.{◌≡◌, refl, not, List, [], ℕ, suc, ◌+◌, ◌≤◌, ◌<◌, arith, add-one, zero-add, length}
use Rattle.common.proofs.Ground.{get_or, drop, drop-cons, drop_of_length-le}
use Rattle.net.specs.Net.{one}
use Rattle.image.specs.Image.{first_not_below}
use Rattle.image.proofs.Heading.{below_before}
use Rattle.paging.specs.Store.{holds, after_reference, reads_from}
use Rattle.paging.proofs.Most.{one_most}
use Rattle.store.specs.Ring.{Ring, Store, Referred}

module _ (pages : ℕ) (distances : List ℕ) (threshold frames : ℕ) (list : List ℕ) where
  -- Before reference i + 1: the store, and that the reads so far and those of what is left are all.
  pub record Replaying (older newer : List ℕ) (last reads i : ℕ) : Type 0 where
    pub store : Store pages frames last reads older newer
    pub few : reads ≤ i
    pub all : reads + reads_from pages distances threshold frames store.held (drop i list)
        ≡ reads_from pages distances threshold frames [] list

  pub replaying_first : (older newer : List ℕ) → Ring pages [] older newer → 0 < frames → 0 < pages
      → (length older ≡ 256) × (length newer ≡ 256) → Replaying older newer 0 0 0
  replaying_first older newer ring some row memory = record {
    store = record {
      held = [];
      holding = record { ring = ring; count = omega arith; last-is = refl };
      some = some;
      row = row;
      memory = memory;
    };
    few = omega arith;
    all = zero-add (reads_from pages distances threshold frames [] list);
  }

  -- After a reference, where the entries of the list are pages.
  pub replaying_next : length list ≤ first_not_below pages list → {older newer older_now newer_now : List ℕ}
      {last reads reads_now i : ℕ} → Replaying older newer last reads i → i < length list
      → (length older_now ≡ 256) × (length newer_now ≡ 256)
      → Referred pages distances threshold frames (get_or list i 0) last reads older newer reads_now older_now newer_now
      → Replaying older_now newer_now (get_or list i 0) reads_now (i + 1)
  unfolding reads_from
  replaying_next entries {reads = reads} {i = i} r more memory referred =
      let p = get_or list i 0 in
      let held = r.store.held in
      let step = referred held r.store.holding in
      let held_now = after_reference pages distances threshold frames p held in
      let left : reads_from pages distances threshold frames held (drop i list)
      ≡ one (not (holds p held)) + reads_from pages distances threshold frames held_now (drop (suc i) list) =
      rw (drop-cons list i 0 more) in
      record {
        store = record {
          held = held_now;
          holding = step.0;
          some = r.store.some;
          row = below_before pages list i (omega arith);
          memory = memory;
        };
        few = omega (arith, step.1, r.few, one_most (not (holds p held)));
        all = rw (add-one i) (omega (arith, left, step.1, r.all));
      }

  pub replaying_all : {older newer : List ℕ} {last reads i : ℕ} → Replaying older newer last reads i → length list ≤ i
      → reads ≡ reads_from pages distances threshold frames [] list
  unfolding reads_from
  replaying_all {i = i} r over =
      let none : reads_from pages distances threshold frames r.store.held (drop i list) ≡ 0 =
      rw (drop_of_length-le list over) in
      omega (arith, none, r.all)
