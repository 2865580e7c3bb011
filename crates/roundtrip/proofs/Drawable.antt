-- What it means that the writer refuses nothing: 2 to 5, 19 and 20, each turned round.
use Rattle.common.proofs.Ground.{◌≡◌, refl, true, false, not, ◌&&◌, ◌||◌, List, [], ◌∷◌, ℕ, zero, suc, ◌+◌, ◌*◌}
use Rattle.common.proofs.Ground.{◌≤◌, ◌<◌, arith, dite, ℕ_discrete, length, get_or, eqb, ltb, le-ltb, ltb-false}
use Rattle.common.proofs.Ground.{eq-eqb, eqb-true, Bool}
use Rattle.common.proofs.Cases.{by_pick, never}
use Rattle.image.specs.Image.{Outcome, accepted, refused, first_not_below}
use Rattle.image.proofs.Heading.{in_range, within, below_before, all-below}
use Rattle.move_record.specs.declared.MoveRecord.{MoveRecord}
use Rattle.roundtrip.specs.Written.{need_of, is_move, is_above, rising_after, rising, first_full, shape_check}
use Rattle.roundtrip.specs.Written.{WriteOutcome, said, records_check, after_shape, write_check}

pub record Drawable (size pages : ℕ) (directory : List ℕ) (room : ℕ) (records : List MoveRecord) : Type 0 where
  pub stations : 1 ≤ size
  pub stations_most : size ≤ 2048
  pub pages_some : 1 ≤ pages
  pub pages_most : pages ≤ 240
  pub total : room ≡ 4 + size + 256 * pages
  pub directory_length : length directory ≡ size
  pub paged : (u : ℕ) → u < size → get_or directory u 0 < pages
  pub all_rising : rising size records ≡ length records
  pub all_fit : (p : ℕ) → p < pages → need_of directory records p ≤ 256

-- no more are counted than there are
after_most : (size : ℕ) (before : MoveRecord) (rs : List MoveRecord) → rising_after size before rs ≤ length rs
unfolding rising_after
after_most size before [] = omega arith
after_most size before (r ∷ rs) =
    let rest = after_most size r rs in
    by_pick (λ n. n ≤ suc (length rs)) (is_move size r && is_above before r) (λ on. omega arith) (λ off. omega arith)

pub rising_most : (size : ℕ) (records : List MoveRecord) → rising size records ≤ length records
unfolding rising
rising_most size [] = omega arith
rising_most size (r ∷ rs) =
    let rest = after_most size r rs in
    by_pick (λ n. n ≤ suc (length rs)) (is_move size r) (λ on. omega arith) (λ off. omega arith)

module _ (directory : List ℕ) (records : List MoveRecord) where
  -- pages before the first full one fit, and where all fit there is none
  pub fit_before : (count p q : ℕ) → p ≤ q → q < p + count → q < first_full directory records count p
      → need_of directory records q ≤ 256
  unfolding first_full
  fit_before zero p q from to h = absurd (omega arith)
  fit_before (suc count) p q from to h =
      by_pick (λ n. q < n → need_of directory records q ≤ 256) (ltb 256 (need_of directory records p))
      (λ full less. absurd (omega arith))
      (λ fits less.
      dite (ℕ_discrete q p)
      (λ here. rw here (ltb-false 256 (need_of directory records p) fits))
      (λ later. fit_before count (suc p) q (omega arith) (omega arith) less))
      h

  pub none_full : (count p : ℕ) → ((q : ℕ) → p ≤ q → q < p + count → need_of directory records q ≤ 256)
      → first_full directory records count p ≡ p + count
  unfolding first_full
  none_full zero p fit = omega arith
  none_full (suc count) p fit =
      let rest = none_full count (suc p) (λ q from to. fit q (omega arith) (omega arith)) in
      rw (le-ltb 256 (need_of directory records p) (fit p (omega arith) (omega arith))) (omega arith)

neither : (a b : Bool) → not a || not b ≡ false → (a ≡ true) × (b ≡ true)
neither true true e = (refl, refl)
neither true false e = never (cc)
neither false b e = never (cc)

module _ (size pages : ℕ) (directory : List ℕ) (room : ℕ) where
  -- Heading and directory are accepted.
  pub record Shape : Type 0 where
    pub stations : (1 ≤ size) × (size ≤ 2048)
    pub some_pages : (1 ≤ pages) × (pages ≤ 240)
    pub total : room ≡ 4 + size + 256 * pages
    pub directory_length : length directory ≡ size
    pub paged : (u : ℕ) → u < size → get_or directory u 0 < pages

  pub shape : shape_check size pages directory room ≡ accepted → Shape
  unfolding shape_check
  shape e =
      let total = 4 + size + 256 * pages in
      let first_bad = first_not_below pages directory in
      let Passed : Outcome → Type 0 = λ o. o ≡ accepted → Shape in
      by_pick Passed (eqb size 0 || ltb 2048 size) (λ outside q. never (cc)) (λ two.
      by_pick Passed (eqb pages 0 || ltb 240 pages) (λ outside q. never (cc)) (λ three.
      by_pick Passed (not (eqb room total) || not (eqb (length directory) size)) (λ other q. never (cc)) (λ four.
      by_pick Passed (ltb first_bad size) (λ bad q. never (cc)) (λ five q.
      let lengths = neither (eqb room total) (eqb (length directory) size) four in
      record {
        stations = in_range size 2048 two;
        some_pages = in_range pages 240 three;
        total = eqb-true room total lengths.0;
        directory_length = eqb-true (length directory) size lengths.1;
        paged = λ u h. below_before pages directory u (omega (arith, ltb-false first_bad size five));
      }))))
      e

  module _ (records : List MoveRecord) where
    both_accepted : (o : Outcome) (following : WriteOutcome) → after_shape o following ≡ said accepted
        → (o ≡ accepted) × (following ≡ said accepted)
    both_accepted accepted following e = (refl, e)
    both_accepted (refused number place) following e = never (cc)

    records_accepted : records_check size pages directory records ≡ said accepted
        → (rising size records ≡ length records) × ((p : ℕ) → p < pages → need_of directory records p ≤ 256)
    records_accepted e =
        let Passed : WriteOutcome → Type 0 = λ o. o ≡ said accepted
        → (rising size records ≡ length records) × ((p : ℕ) → p < pages → need_of directory records p ≤ 256) in
        by_pick Passed (ltb (rising size records) (length records)) (λ bad q. never (cc)) (λ nineteen.
        by_pick Passed (ltb (first_full directory records pages 0) pages) (λ full q. never (cc)) (λ twenty q. (
          omega (arith, rising_most size records, ltb-false (rising size records) (length records) nineteen),
          λ p h.
              fit_before directory records pages 0 p (omega arith) (omega arith)
              (omega (arith, ltb-false (first_full directory records pages 0) pages twenty)),
        )))
        e

    pub drawable : write_check size pages directory room records ≡ said accepted
        → Drawable size pages directory room records
    unfolding write_check
    drawable e =
        let both = both_accepted (shape_check size pages directory room) (records_check size pages directory records) e in
        let s = shape both.0 in
        let r = records_accepted both.1 in
        record {
          stations = s.stations.0;
          stations_most = s.stations.1;
          pages_some = s.some_pages.0;
          pages_most = s.some_pages.1;
          total = s.total;
          directory_length = s.directory_length;
          paged = s.paged;
          all_rising = r.0;
          all_fit = r.1;
        }

    pub draws : Drawable size pages directory room records
        → write_check size pages directory room records ≡ said accepted
    unfolding write_check shape_check
    draws d =
        let none_bad = all-below pages directory (λ i h. d.paged i (omega (arith, d.directory_length))) in
        let none_over = none_full directory records pages 0 (λ q from to. d.all_fit q (omega arith)) in
        rw (
          within size 2048 d.stations d.stations_most,
          within pages 240 d.pages_some d.pages_most,
          eq-eqb room (4 + size + 256 * pages) d.total,
          eq-eqb (length directory) size d.directory_length,
          le-ltb (first_not_below pages directory) size (omega (arith, d.directory_length)),
          le-ltb (rising size records) (length records) (omega (arith, d.all_rising)),
          le-ltb (first_full directory records pages 0) pages (omega arith),
        )
