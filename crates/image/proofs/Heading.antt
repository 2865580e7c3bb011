-- What an accepted heading and directory say of an image: refusals 1 to 5, each turned round. A check that is
-- accepted has passed its first test, and the checks that follow it are accepted too. And what the check can say at
-- all.
use Rattle.common.proofs.Ground.{◌≡◌, true, false, not, ◌||◌, dite, List, [], ◌∷◌, ℕ, zero, suc, ◌+◌, ◌*◌, ◌≤◌, ◌<◌}
use Rattle.common.proofs.Ground.{arith, ℕ_discrete, length, get_or, drop, length-drop, length-take-le, eqb, ltb, ltb-true}
use Rattle.common.proofs.Ground.{ltb-false, eq-eqb, ne_eqb, eqb-true, not-false, lit≤, lt-ltb, le-ltb, refl, ap}
use Rattle.common.proofs.Cases.{by_pick, never}
use Rattle.image.specs.Image.{Outcome, accepted, refused, nowhere, at_station, station_count, page_count}
use Rattle.image.specs.Image.{directory_of, page_bytes, first_not_below, heading_check}

pub record Formed (image : List ℕ) : Type 0 where
  pub heading : 4 ≤ length image
  pub stations : 1 ≤ station_count image
  pub stations_most : station_count image ≤ 2048
  pub pages : 1 ≤ page_count image
  pub pages_most : page_count image ≤ 240
  pub total : length image ≡ 4 + station_count image + 256 * page_count image
  pub directory : length (directory_of image) ≡ station_count image
  pub paged : (v : ℕ) → v < station_count image → get_or (directory_of image) v 0 < page_count image
  pub page : (p : ℕ) → p < page_count image → length (page_bytes image p) ≡ 256

-- a count that is neither 0 nor above its limit
pub in_range : (n limit : ℕ) → eqb n 0 || ltb limit n ≡ false → (1 ≤ n) × (n ≤ limit)
in_range n limit e =
    dite (ℕ_discrete n 0)
    (λ none. never (let z : true ≡ false = simp (eq-eqb n 0 none) at e in cc))
    (λ some. omega (arith, ltb-false limit n (simp (ne_eqb n 0 some) at e)))

pub within : (n limit : ℕ) → 1 ≤ n → n ≤ limit → eqb n 0 || ltb limit n ≡ false
within n limit some most = simp (ne_eqb n 0 (λ e. omega arith), le-ltb limit n most)

-- every entry before the first that is not below the limit is below it
pub below_before : (limit : ℕ) (ds : List ℕ) (i : ℕ) → i < first_not_below limit ds → get_or ds i 0 < limit
unfolding first_not_below
below_before limit [] i h = absurd (omega arith)
below_before limit (d ∷ ds) zero h =
    by_pick (λ first. 0 < first → d < limit) (ltb d limit)
    (λ below l. ltb-true d limit below)
    (λ found l. absurd (omega arith))
    h
below_before limit (d ∷ ds) (suc i) h =
    by_pick (λ first. suc i < first → get_or ds i 0 < limit) (ltb d limit)
    (λ below l. below_before limit ds i (omega arith))
    (λ found l. absurd (omega arith))
    h

-- where every entry is below the limit there is no such one
pub all-below : (limit : ℕ) (ds : List ℕ) → ((i : ℕ) → i < length ds → get_or ds i 0 < limit)
    → first_not_below limit ds ≡ length ds
unfolding first_not_below
all-below limit [] each = refl
all-below limit (d ∷ ds) each =
    rw (lt-ltb d limit (each 0 (omega arith))) (ap suc (all-below limit ds (λ i h. each (suc i) (omega arith))))

pub formed : (image : List ℕ) → heading_check image ≡ accepted → Formed image
unfolding heading_check directory_of page_bytes
formed image e =
    let N = station_count image in
    let P = page_count image in
    let size = 4 + N + 256 * P in
    let first_bad = first_not_below P (directory_of image) in
    let Passed : Outcome → Type 0 = λ outcome. outcome ≡ accepted → Formed image in
    by_pick Passed (ltb (length image) 4) (λ short q. never (cc)) (λ one.
    by_pick Passed (eqb N 0 || ltb 2048 N) (λ outside q. never (cc)) (λ two.
    by_pick Passed (eqb P 0 || ltb 240 P) (λ outside q. never (cc)) (λ three.
    by_pick Passed (not (eqb (length image) size)) (λ other q. never (cc)) (λ four.
    by_pick Passed (ltb first_bad N) (λ bad q. never (cc)) (λ five q.
    let stations = in_range N 2048 two in
    let pages = in_range P 240 three in
    let total = eqb-true (length image) size (not-false (eqb (length image) size) four) in
    record {
      heading = omega (arith, ltb-false);
      stations = stations.0;
      stations_most = stations.1;
      pages = pages.0;
      pages_most = pages.1;
      total = total;
      directory = length-take-le N (drop 4 image) (omega (arith, length-drop 4 image));
      paged = λ v l. below_before P (directory_of image) v (omega (arith, ltb-false));
      page = λ p l.
          length-take-le 256 (drop (4 + N + 256 * p) image) (omega (arith, length-drop (4 + N + 256 * p) image));
    })))))
    e

-- And the other way.
pub formed_accepted : (image : List ℕ) → Formed image → heading_check image ≡ accepted
unfolding heading_check
formed_accepted image f =
    let N = station_count image in
    let P = page_count image in
    let none_bad = all-below P (directory_of image) (λ i h. f.paged i (omega (arith, f.directory))) in
    rw (
      le-ltb (length image) 4 f.heading,
      within N 2048 f.stations f.stations_most,
      within P 240 f.pages f.pages_most,
      eq-eqb (length image) (4 + N + 256 * P) f.total,
      le-ltb (first_not_below P (directory_of image)) N (omega (arith, f.directory)),
    )

-- What the check can say: accepted; 1 to 4, with no place; or 5 with a station.
pub heading_says : (Says : Outcome → Type 0) → ((number : ℕ) → number ≤ 4 → Says (refused number nowhere))
    → ((station : ℕ) → Says (refused 5 (at_station station))) → Says accepted → (image : List ℕ)
    → Says (heading_check image)
unfolding heading_check
heading_says Says early five whole image =
    let N = station_count image in
    let P = page_count image in
    let first_bad = first_not_below P (directory_of image) in
    by_pick Says (ltb (length image) 4) (λ refuse. early 1 (lit≤ tt)) λ one.
    by_pick Says (eqb N 0 || ltb 2048 N) (λ refuse. early 2 (lit≤ tt)) λ two.
    by_pick Says (eqb P 0 || ltb 240 P) (λ refuse. early 3 (lit≤ tt)) λ three.
    by_pick Says (not (eqb (length image) (4 + N + 256 * P))) (λ refuse. early 4 (lit≤ tt)) λ four.
    by_pick Says (ltb first_bad N) (λ refuse. five first_bad) (λ pass. whole)
