-- The stations of a wholly good image by its directory: how many are listed, what comes next where it is read from
-- station u on, and that a station's page is read within.
use Rattle.common.proofs.Ground.{◌≡◌, ap, sym, ◌∙◌, List, ◌∷◌, ℕ, ◌+◌, ◌≤◌, ◌<◌, arith, length, get_or}
use Rattle.common.proofs.Ground.{drop, length-drop, drop-cons, add-one}
use Rattle.image.specs.Image.{accepted, station_count, directory_of}
use Rattle.whole.specs.Check.{whole_check}
use Rattle.move_record.specs.declared.MoveRecord.{MoveRecord}
use Rattle.by_station.specs.Standing.{Standing, page_at}
use Rattle.by_station.proofs.Standing.{well-formed, page_there, offset_inside}

module _ (image : List ℕ) (whole : whole_check image ≡ accepted) where
  pub listed : {directory : List ℕ} → directory ≡ directory_of image → length directory ≡ station_count image
  listed part = omega (arith, ap length part, (well-formed image whole).directory)

  pub near : {u : ℕ} {offsets : List ℕ} {left : List MoveRecord} → Standing image u offsets left
      → u < station_count image → get_or offsets (page_at image u) 0 ≤ 256
  near {u} {offsets} stands more =
      let reached = offset_inside image whole u offsets _ stands more in
      omega (arith, reached, (well-formed image whole).page _ (page_there image whole u more))

  module _ (u : ℕ) {left : List ℕ} (from : left ≡ drop u (directory_of image)) where
    pub none_comes : length left ≡ 0 → station_count image ≤ u
    none_comes over =
        omega (arith, over, ap length from, length-drop u (directory_of image), (well-formed image whole).directory)

    module _ {p : ℕ} {rest : List ℕ} (next : left ≡ p ∷ rest) where
      pub comes : u < station_count image
      comes = omega (
        arith,
        ap length next,
        ap length from,
        length-drop u (directory_of image),
        (well-formed image whole).directory,
      )

      parts : get_or (directory_of image) u 0 ∷ drop (u + 1) (directory_of image) ≡ p ∷ rest
      parts =
          rw (add-one u)
          (sym (drop-cons (directory_of image) u 0 (omega (arith, comes, (well-formed image whole).directory))) ∙
          sym from ∙ next)

      pub its_page : p ≡ page_at image u
      its_page = let same = parts in cc

      pub onward : rest ≡ drop (u + 1) (directory_of image)
      onward = let same = parts in cc
