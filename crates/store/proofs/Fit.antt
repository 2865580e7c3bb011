-- What the call's tests say: which refusal it is, and what holds where there is none.
use Rattle.common.proofs.Ground.{◌≡◌, refl, subst, Bool, true, false, not, ◌&&◌, ◌||◌, List, [], ℕ, ◌*◌, ◌≤◌, ◌<◌}
use Rattle.common.proofs.Ground.{arith, length, eqb, eqb-true, ltb, ltb-false, lt-ltb, le-ltb}
use Rattle.common.proofs.Cases.{never}
use Rattle.image.specs.Image.{first_not_below}
use Rattle.image.proofs.Heading.{in_range}
use Rattle.paging.specs.Store.{Replay, reads, refused, reads_from, unfit, replay}
use Rattle.paging.specs.Promises.{ReplayPromised}
use Rattle.paging.proofs.Promising.{replay_promised}
use Rattle.store.specs.Ring.{is_fit, Table}

-- The list and the table, by the tests as they are made.
module _ (list : List ℕ) (pages : ℕ) (distances : List ℕ) {first : ℕ} (found : first ≡ first_not_below pages list) where
  pub no_page : first < length list → false ≡ is_fit list pages distances
  no_page inside = rw (lt-ltb (first_not_below pages list) (length list) (omega arith))

  pub all_pages : length list ≤ first → eqb (length distances) (pages * pages) ≡ is_fit list pages distances
  all_pages none = rw (le-ltb (first_not_below pages list) (length list) (omega arith))

module _ (list : List ℕ) (pages : ℕ) (distances : List ℕ) (fit : is_fit list pages distances ≡ true) where
  both : (a b : Bool) → not a && b ≡ true → (a ≡ false) × (b ≡ true)
  both true b e = never (cc)
  both false b e = (refl, e)

  tests : (ltb (first_not_below pages list) (length list) ≡ false) × (eqb (length distances) (pages * pages) ≡ true)
  tests = both (ltb (first_not_below pages list) (length list)) (eqb (length distances) (pages * pages)) fit

  pub fit_entries : length list ≤ first_not_below pages list
  fit_entries = ltb-false (first_not_below pages list) (length list) tests.0

  pub fit_table : eqb pages 0 || ltb 240 pages ≡ false → Table pages distances
  fit_table passed = record {
    few = in_range pages 240 passed;
    full = eqb-true (length distances) (pages * pages) tests.1;
  }

-- What is answered is what the definition says, of which the promise holds.
module _ (list : List ℕ) (pages frames : ℕ) (distances : List ℕ) (threshold : ℕ) where
  answered : (said : Replay) → replay list pages frames distances threshold ≡ said
      → ReplayPromised list pages frames distances threshold said
  answered said is =
      subst (ReplayPromised list pages frames distances threshold) is
      (replay_promised list pages frames distances threshold)

  -- 3 first
  pub answered_3 : eqb pages 0 || ltb 240 pages ≡ true
      → ReplayPromised list pages frames distances threshold (refused 3)
  unfolding replay
  answered_3 is = answered (refused 3) (rw is)

  -- then 23, by the frames, or by the list or the table
  module _ (passed : eqb pages 0 || ltb 240 pages ≡ false) where
    pub answered_23 : eqb frames 0 || ltb 64 frames ≡ true
        → ReplayPromised list pages frames distances threshold (refused 23)
    unfolding replay
    answered_23 is = answered (refused 23) (rw (passed, is))

    module _ (some : eqb frames 0 || ltb 64 frames ≡ false) where
      neither : (a b c : Bool) → a ≡ false → a || (b || not c) ≡ not (not b && c)
      neither false false c passes = refl
      neither false true c passes = refl
      neither true b c passes = never (cc)

      unfit_is : unfit list pages frames distances ≡ not (is_fit list pages distances)
      unfit_is =
          neither (eqb frames 0 || ltb 64 frames) (ltb (first_not_below pages list) (length list))
          (eqb (length distances) (pages * pages)) some

      pub answered_23_too : is_fit list pages distances ≡ false
          → ReplayPromised list pages frames distances threshold (refused 23)
      unfolding replay
      answered_23_too is = answered (refused 23) (rw (passed, unfit_is, is))

      pub answered_reads : is_fit list pages distances ≡ true → (n : ℕ)
          → n ≡ reads_from pages distances threshold frames [] list
          → ReplayPromised list pages frames distances threshold (reads n)
      unfolding replay
      answered_reads is n count = answered (reads n) (rw (passed, unfit_is, is, count))
