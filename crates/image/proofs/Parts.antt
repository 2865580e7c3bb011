-- The parts of an image: they are bytes if it is, and a page has 256 of them at most.
use Rattle.common.proofs.Ground.{dite, List, ℕ, ◌+◌, ◌*◌, ◌≤◌, arith, dec_lt, length, drop, length-take}
use Rattle.common.proofs.Ground.{get_or-eq_default, get_or-take, get_or-drop}
use Rattle.image.specs.Bytes.{Bytes, part}
use Rattle.image.specs.Image.{station_count, directory_of, page_bytes}

pub bytes_part : (s : List ℕ) (from count : ℕ) → Bytes s → Bytes (part s from count)
bytes_part s from count b i =
    dite (dec_lt i count)
    (λ inside. omega (arith, get_or-take count (drop from s) i 0 inside, get_or-drop from s i 0, b (from + i)))
    (λ past.
    let short : length (part s from count) ≤ i = omega (arith, length-take count (drop from s)) in
    omega (arith, get_or-eq_default (part s from count) 0 {n = i} short))

module _ (image : List ℕ) where
  pub bytes_directory : Bytes image → Bytes (directory_of image)
  unfolding directory_of
  bytes_directory b = bytes_part image 4 (station_count image) b

  pub bytes_page : (p : ℕ) → Bytes image → Bytes (page_bytes image p)
  unfolding page_bytes
  bytes_page p b = bytes_part image (4 + station_count image + 256 * p) 256 b

  pub directory_most : length (directory_of image) ≤ station_count image
  unfolding directory_of
  directory_most = omega (arith, length-take (station_count image) (drop 4 image))

  pub page_short : (p : ℕ) → length (page_bytes image p) ≤ 256
  unfolding page_bytes
  page_short p = omega (arith, length-take 256 (drop (4 + station_count image + 256 * p) image))
