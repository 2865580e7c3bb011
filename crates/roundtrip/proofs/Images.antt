-- The parts of a written image: its heading, its directory and its pages are those that it was written from; and an
-- image of the right length whose parts are these is the written image. By induction over the pages, of 256 bytes each.
use Rattle.common.proofs.Ground.{◌≡◌, refl, ap, sym, ◌∙◌, List, ◌++◌, ℕ, zero, suc, ◌+◌, ◌-◌, ◌*◌, ◌/◌}
use Rattle.common.proofs.Ground.{◌%◌, ◌≤◌, ◌<◌, arith, length, take, drop, get_or, length-append, length-drop, drop-drop}
use Rattle.common.proofs.Ground.{drop-cons, take_at, take-add, drop-append-add, take-length}
use Rattle.common.proofs.Ground.{drop_of_length-le, add-zero, zero-add}
use Rattle.image.specs.Bytes.{part, Bytes}
use Rattle.image.specs.Image.{station_count, page_count, directory_of, page_bytes}
use Rattle.page.proofs.Good.Written.{length-spelled}
use Rattle.move_record.specs.declared.MoveRecord.{MoveRecord}
use Rattle.roundtrip.specs.Written.{content_for, need_of, page_for, pages_for, heading_for, written}

module _ (directory : List ℕ) (records : List MoveRecord) where
  -- a page has 256 bytes
  pub page_length : (p : ℕ) → need_of directory records p ≤ 256 → length (page_for directory records p) ≡ 256
  unfolding need_of page_for
  page_length p h =
      omega (arith, length-spelled (content_for directory records p) (256 - need_of directory records p))

  -- each page stands in its place
  pub page_part : (count p k : ℕ) → ((q : ℕ) → p ≤ q → q < p + count → need_of directory records q ≤ 256) → k < count
      → part (pages_for directory records count p) (256 * k) 256 ≡ page_for directory records (p + k)
  unfolding pages_for
  page_part zero p k fit h = absurd (omega arith)
  page_part (suc count) p zero fit h =
      rw add-zero
      (take_at (page_for directory records p) (pages_for directory records count (suc p)) 256
      (page_length p (fit p (omega arith) (omega arith))))
  page_part (suc count) p (suc k) fit h =
      let here = page_length p (fit p (omega arith) (omega arith)) in
      let first = page_for directory records p in
      let rest = pages_for directory records count (suc p) in
      let far : 256 * suc k ≡ length first + 256 * k = omega arith in
      let next : suc p + k ≡ p + suc k = omega arith in
      ap (λ n. take 256 (drop n (first ++ rest))) far ∙
      ap (take 256) (drop-append-add first rest (256 * k)) ∙
      page_part count (suc p) k (λ q from to. fit q (omega arith) (omega arith)) (omega arith) ∙
      ap (page_for directory records) next

  pub pages_length : (count p : ℕ) → ((q : ℕ) → p ≤ q → q < p + count → need_of directory records q ≤ 256)
      → length (pages_for directory records count p) ≡ 256 * count
  unfolding pages_for
  pages_length zero p fit = refl
  pages_length (suc count) p fit =
      omega (
        arith,
        length-append (page_for directory records p) (pages_for directory records count (suc p)),
        page_length p (fit p (omega arith) (omega arith)),
        pages_length count (suc p) (λ q from to. fit q (omega arith) (omega arith)),
      )

  -- bytes whose parts are these pages
  pub pages_by_parts : (image : List ℕ) (base count p : ℕ) → length image ≡ base + 256 * count
      → ((k : ℕ) → k < count → part image (base + 256 * k) 256 ≡ page_for directory records (p + k))
      → drop base image ≡ pages_for directory records count p
  unfolding pages_for
  pages_by_parts image base zero p e same = drop_of_length-le image {i = base} (omega arith)
  pages_by_parts image base (suc count) p e same =
      let first = same 0 (omega arith) in
      let at : base + 256 * 0 ≡ base = omega arith in
      let this : take 256 (drop base image) ≡ page_for directory records p = cc (add-zero p) in
      let front = take-add 256 (length (drop base image) - 256) (drop base image) in
      let all : 256 + (length (drop base image) - 256) ≡ length (drop base image) =
      omega (arith, length-drop base image) in
      let rest = drop 256 (drop base image) in
      let left : length rest ≡ length (drop base image) - 256 = length-drop 256 (drop base image) in
      sym (take-length (drop base image)) ∙
      ap (λ n. take n (drop base image)) (sym all) ∙
      front ∙
      ap (λ n. take 256 (drop base image) ++ take n rest) (sym left) ∙
      ap (λ l. take 256 (drop base image) ++ l) (take-length rest) ∙
      ap (λ l. l ++ rest) this ∙
      ap (λ l. page_for directory records p ++ l)
      (drop-drop 256 base image ∙
      pages_by_parts image (base + 256) count (suc p) (omega arith)
      (λ k h.
      let there : base + 256 + 256 * k ≡ base + 256 * suc k = omega arith in
      let next : p + suc k ≡ suc p + k = omega arith in
      ap (λ n. part image n 256) there ∙ same (suc k) (omega arith) ∙ ap (page_for directory records) next))

module _ (size pages : ℕ) (directory : List ℕ) (records : List MoveRecord) (few : size < 65536) (some : pages < 65536)
    (long : length directory ≡ size) where
  abbrev image : List ℕ
  image = written size pages directory records

  written_stations : station_count image ≡ size
  unfolding written
  written_stations = omega arith

  written_pages : page_count image ≡ pages
  unfolding written
  written_pages = omega arith

  written_directory : directory_of image ≡ directory
  unfolding written directory_of
  written_directory =
      ap (λ n. take n (directory ++ pages_for directory records pages 0)) written_stations ∙
      take_at directory (pages_for directory records pages 0) size long

  module _ (fit : (p : ℕ) → p < pages → need_of directory records p ≤ 256) where
    written-length : length image ≡ 4 + size + 256 * pages
    unfolding written
    written-length =
        omega (
          arith,
          length-append directory (pages_for directory records pages 0),
          pages_length directory records pages 0 (λ q from to. fit q (omega arith)),
        )

    written_page : (p : ℕ) → p < pages → page_bytes image p ≡ page_for directory records p
    unfolding written page_bytes
    written_page p h =
        let behind = directory ++ pages_for directory records pages 0 in
        let all = heading_for size pages behind in
        let at : 4 + station_count all + 256 * p ≡ 4 + (length directory + 256 * p) = omega (arith, written_stations) in
        ap (λ n. take 256 (drop n all)) at ∙
        ap (take 256) (sym (drop-drop (length directory + 256 * p) 4 all)) ∙
        ap (take 256) (drop-append-add directory (pages_for directory records pages 0) (256 * p)) ∙
        page_part directory records pages 0 p (λ q from to. fit q (omega arith)) h ∙
        ap (page_for directory records) (zero-add p)

-- The parts of a written image.
pub record WrittenParts (size pages : ℕ) (directory : List ℕ) (records : List MoveRecord) : Type 0 where
  pub stations : station_count (written size pages directory records) ≡ size
  pub page_count_lem : page_count (written size pages directory records) ≡ pages
  pub directory_same : directory_of (written size pages directory records) ≡ directory
  pub total : length (written size pages directory records) ≡ 4 + size + 256 * pages
  pub page : (p : ℕ) → p < pages → page_bytes (written size pages directory records) p ≡ page_for directory records p

pub written_parts : (size pages : ℕ) (directory : List ℕ) (records : List MoveRecord) → size < 65536 → pages < 65536
    → length directory ≡ size → ((p : ℕ) → p < pages → need_of directory records p ≤ 256)
    → WrittenParts size pages directory records
written_parts size pages directory records few some long fit = record {
  stations = written_stations size pages directory records few some long;
  page_count_lem = written_pages size pages directory records few some long;
  directory_same = written_directory size pages directory records few some long;
  total = written-length size pages directory records few some long fit;
  page = written_page size pages directory records few some long fit;
}

-- An image by its parts.
pub image_by_parts : (image : List ℕ) (records : List MoveRecord) → Bytes image
    → length image ≡ 4 + station_count image + 256 * page_count image
    → ((p : ℕ) → p < page_count image → page_bytes image p ≡ page_for (directory_of image) records p)
    → written (station_count image) (page_count image) (directory_of image) records ≡ image
unfolding written directory_of page_bytes
image_by_parts image records bytes e same =
    let N = station_count image in
    let P = page_count image in
    let directory = take N (drop 4 image) in
    let pages = pages_by_parts directory records image (4 + N) P 0 e
    (λ k h. same k h ∙ ap (page_for directory records) (sym (zero-add k))) in
    let rest : drop 4 image ≡ directory ++ pages_for directory records P 0 =
    sym (take-length (drop 4 image)) ∙ ap (λ n. take n (drop 4 image))
    (let size : length (drop 4 image) ≡ N + 256 * P = omega (arith, length-drop 4 image) in size) ∙
    take-add N (256 * P) (drop 4 image) ∙
    ap (λ l. directory ++ l)
    (ap (take (256 * P)) (drop-drop N 4 image ∙ pages) ∙
    ap (λ n. take n (pages_for directory records P 0))
    (let size : 256 * P ≡ length (pages_for directory records P 0) =
    omega (arith, ap length pages, length-drop (4 + N) image) in size) ∙
    take-length (pages_for directory records P 0)) in
    let b0 = bytes 0 in
    let b1 = bytes 1 in
    let b2 = bytes 2 in
    let b3 = bytes 3 in
    let low : N % 256 ≡ get_or image 0 0 = omega arith in
    let high : N / 256 ≡ get_or image 1 0 = omega arith in
    let low_pages : P % 256 ≡ get_or image 2 0 = omega arith in
    let high_pages : P / 256 ≡ get_or image 3 0 = omega arith in
    let first = drop-cons image 0 0 (omega arith) in
    let second = drop-cons image 1 0 (omega arith) in
    let third = drop-cons image 2 0 (omega arith) in
    let fourth = drop-cons image 3 0 (omega arith) in
    sym (first ∙ cc)
