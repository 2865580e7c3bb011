-- The whole image: of what is not refused the pages fit behind heading and directory, and these, with the pages, are
-- the image.
use Rattle.common.proofs.Ground.{◌≡◌, ap, ◌∙◌, List, [], ◌++◌, append-nil, ℕ, ◌+◌, ◌-◌, ◌*◌, ◌/◌, arith, length, take}
use Rattle.common.proofs.Ground.{drop, take_at, length-take, length-drop, drop_of_length-le}
use Rattle.move_record.specs.declared.MoveRecord.{MoveRecord}
use Rattle.roundtrip.specs.Written.{heading_for, pages_for, written}
use Rattle.imaging.specs.Shaped.{Shaped, Writable}
use Rattle.imaging.specs.Fitting.{Fitting}
use Rattle.imaging.proofs.Runs.{rising_by_station}

module _ (size pages : ℕ) (directory : List ℕ) (records : List MoveRecord) (room : ℕ)
    (shaped : Shaped size pages directory room) where
  -- the part of a buffer behind heading and directory
  abbrev behind : List ℕ → List ℕ
  behind image = take (length image - (4 + length directory)) (drop (4 + length directory) image)

  behind_length : (image : List ℕ) → length image ≡ room → length (behind image) ≡ 256 * pages
  behind_length image same =
      let front = 4 + length directory in
      omega (
        arith,
        length-take (length image - front) (drop front image),
        length-drop front image,
        shaped.total,
        shaped.directory_length,
      )

  pub pages_fit : Writable size pages directory records → (image : List ℕ) → length image ≡ room
      → Fitting directory records (length (behind image))
  pages_fit writable image same =
      let count : length (behind image) / 256 ≡ pages = omega (arith, behind_length image same) in
      record {
        whole = omega (arith, behind_length image same);
        stations_most = omega (arith, shaped.directory_length, shaped.stations_most);
        paged = λ u h. omega (arith, shaped.paged u (omega (arith, shaped.directory_length)));
        by_station = rising_by_station size records writable.all_rising;
        all_fit = λ p h. writable.all_fit p (omega arith);
      }

  pub whole_image : (before image : List ℕ) → length image ≡ room
      → image ≡ heading_for size pages (directory ++ drop (4 + length directory) before) → (last : List ℕ)
      → last ≡ pages_for directory records (length (behind image) / 256) 0
      → take (4 + length directory) image
      ++ (last ++ drop (length image - (4 + length directory)) (drop (4 + length directory) image))
      ≡ written size pages directory records
  unfolding written
  whole_image before image same front last all =
      let end = 4 + length directory in
      let rest = drop end before in
      let count : length (behind image) / 256 ≡ pages = omega (arith, behind_length image same) in
      let heading = heading_for size pages directory in
      let first : take end image ≡ heading = ap (take end) front ∙ take_at heading rest end (omega arith) in
      let none : drop (length image - end) (drop end image) ≡ [] =
      drop_of_length-le (drop end image) {i = length image - end} (omega (arith, length-drop end image)) in
      ap (λ l. take end image ++ (last ++ l)) none ∙
      ap (λ l. take end image ++ l) (append-nil last) ∙
      ap (λ l. l ++ last) first ∙
      ap (λ l. heading ++ l) (all ∙ ap (λ n. pages_for directory records n 0) count)
