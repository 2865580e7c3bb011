-- Pages of 256 bytes one after the other: entries put into one of them leave the others. By induction over the pages.
use Rattle.common.proofs.Ground.{◌≡◌, ◌≢◌, refl, ap, ◌∙◌, List, [], ◌++◌, ℕ, zero, suc, ◌+◌, ◌*◌, ◌<◌, ◌≤◌, arith}
use Rattle.common.proofs.Ground.{length, replicate, add-zero}
use lib.ListN.{replicate-append-replicate}
use Rattle.common.specs.Window.{placed}
use Rattle.move_record.specs.declared.MoveRecord.{MoveRecord}
use Rattle.roundtrip.specs.Written.{page_for, pages_for}
use Rattle.imaging.proofs.Placing.{placed_first, placed_second}

-- So many pages, each given by its number.
unfoldable pub pages_by : (ℕ → List ℕ) → ℕ → List ℕ
pages_by page zero = []
pages_by page (suc count) = page 0 ++ pages_by (λ p. page (suc p)) count

pub pages_same : (page other : ℕ → List ℕ) (count : ℕ) → ((p : ℕ) → p < count → page p ≡ other p)
    → pages_by page count ≡ pages_by other count
unfolding pages_by
pages_same page other zero same = refl
pages_same page other (suc count) same =
    let first = same 0 (omega arith) in
    let rest = pages_same (λ p. page (suc p)) (λ p. other (suc p)) count (λ p h. same (suc p) (omega arith)) in
    ap (λ l. l ++ pages_by (λ p. page (suc p)) count) first ∙ ap (λ l. other 0 ++ l) rest

pub pages_put : (page other : ℕ → List ℕ) (count q at : ℕ) (entries : List ℕ)
    → ((p : ℕ) → p < count → length (page p) ≡ 256) → q < count → at + length entries ≤ 256
    → placed (page q) at entries ≡ other q → ((p : ℕ) → p < count → p ≢ q → page p ≡ other p)
    → placed (pages_by page count) (256 * q + at) entries ≡ pages_by other count
unfolding pages_by
pages_put page other zero q at entries full inside room own others = absurd (omega arith)
pages_put page other (suc count) zero at entries full inside room own others =
    let start : 256 * 0 + at ≡ at = omega arith in
    let rest = pages_same (λ p. page (suc p)) (λ p. other (suc p)) count
    (λ p h. others (suc p) (omega arith) (λ e. omega arith)) in
    ap (λ n. placed (page 0 ++ pages_by (λ p. page (suc p)) count) n entries) start ∙
    placed_first (page 0) _ at entries (omega (arith, full 0 (omega arith))) ∙
    ap (λ l. l ++ pages_by (λ p. page (suc p)) count) own ∙
    ap (λ l. other 0 ++ l) rest
pages_put page other (suc count) (suc q) at entries full inside room own others =
    let start : 256 * suc q + at ≡ length (page 0) + (256 * q + at) = omega (arith, full 0 (omega arith)) in
    let rest = pages_put (λ p. page (suc p)) (λ p. other (suc p)) count q at entries
    (λ p h. full (suc p) (omega arith)) (omega arith) room own
    (λ p h e. others (suc p) (omega arith) (λ f. e (omega arith))) in
    ap (λ n. placed (page 0 ++ pages_by (λ p. page (suc p)) count) n entries) start ∙
    placed_second (page 0) (pages_by (λ p. page (suc p)) count) (256 * q + at) entries ∙
    ap (λ l. page 0 ++ l) rest ∙
    ap (λ l. l ++ pages_by (λ p. other (suc p)) count) (others 0 (omega arith) (λ e. omega arith))

pub pages_clear : (count : ℕ) → pages_by (λ p. replicate 256 0) count ≡ replicate (256 * count) 0
unfolding pages_by
pages_clear zero = refl
pages_clear (suc count) =
    let all : 256 + 256 * count ≡ 256 * suc count = omega arith in
    ap (λ l. replicate 256 0 ++ l) (pages_clear count) ∙
    replicate-append-replicate 256 (256 * count) 0 ∙
    ap (λ n. replicate n 0) all

-- the pages that are written, from page p on
pub pages_for_lem : (directory : List ℕ) (records : List MoveRecord) (count p : ℕ)
    → pages_by (λ i. page_for directory records (p + i)) count ≡ pages_for directory records count p
unfolding pages_by pages_for
pages_for_lem directory records zero p = refl
pages_for_lem directory records (suc count) p =
    ap (λ n. page_for directory records n ++ pages_by (λ i. page_for directory records (p + suc i)) count) (add-zero p) ∙
    ap (λ l. page_for directory records p ++ l)
    (pages_same (λ i. page_for directory records (p + suc i)) (λ i. page_for directory records (suc p + i)) count
    (λ i h. let e : p + suc i ≡ suc p + i = omega arith in ap (page_for directory records) e) ∙
    pages_for_lem directory records count (suc p))
