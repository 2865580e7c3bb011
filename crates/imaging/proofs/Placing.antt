-- Entries placed in a table: none, one, two runs one after the other, in a part of the table, and behind what stands
-- before zeros. Each by the lengths of what is taken and dropped.
use Rattle.common.proofs.Ground.{◌≡◌, refl, ap, sym, ◌∙◌, List, [], ◌∷◌, ◌++◌, append_assoc, ℕ, zero, suc, ◌+◌, ◌-◌}
use Rattle.common.proofs.Ground.{◌/◌, ◌%◌, ◌<◌, ◌≤◌, arith, length, take, drop, set, replicate, length-append}
use Rattle.common.proofs.Ground.{length-take-le, take_at, drop_at, drop-drop, take-append-le, take-append-add}
use Rattle.common.proofs.Ground.{drop-append-add, paste-zero}
use lib.Seq.{drop-append-le, sets-eq}
use Rattle.common.specs.Window.{placed}
use Rattle.roundtrip.specs.Written.{heading_for}

pub placed_none : (table : List ℕ) (from : ℕ) → placed table from [] ≡ table
placed_none table from = sym (paste-zero table from [])

pub placed_one : (table : List ℕ) (from entry : ℕ) → from < length table
    → set table from entry ≡ placed table from (entry ∷ [])
placed_one table from entry h = sets-eq (entry ∷ []) table from (omega arith)

pub drop-zeros : (n zeros : ℕ) → drop n (replicate {A = ℕ} zeros 0) ≡ replicate (zeros - n) 0
drop-zeros zero zeros = let e : zeros - 0 ≡ zeros = omega arith in rw e
drop-zeros (suc n) zero = let e : 0 - suc n ≡ 0 = omega arith in rw e
drop-zeros (suc n) (suc zeros) = let e : suc zeros - suc n ≡ zeros - n = omega arith in rw e (drop-zeros n zeros)

-- a run, and another behind it
pub placed_twice : (table : List ℕ) (from : ℕ) (entries more : List ℕ) → from ≤ length table
    → placed (placed table from entries) (from + length entries) more ≡ placed table from (entries ++ more)
placed_twice table from entries more h =
    let front = take from table ++ entries in
    let behind = drop (from + length entries) table in
    let fronts : length front ≡ from + length entries =
    simp length-append (omega (arith, length-take-le from table h)) in
    let end : from + length entries + length more ≡ from + length (entries ++ more) =
    simp length-append (omega arith) in
    let dropped : drop (from + length entries + length more) (front ++ behind)
    ≡ drop (from + length entries + length more) table =
    sym (drop-drop (length more) (from + length entries) (front ++ behind)) ∙
    ap (drop (length more)) (drop_at front behind (from + length entries) fronts) ∙
    drop-drop (length more) (from + length entries) table in
    ap (λ l. l ++ more ++ drop (from + length entries + length more) (front ++ behind))
    (take_at front behind (from + length entries) fronts) ∙
    ap (λ l. front ++ more ++ l) dropped ∙
    ap (λ n. front ++ more ++ drop n table) end ∙
    ap (λ l. l ++ drop (from + length (entries ++ more)) table) (append_assoc (take from table) entries more)

-- in one of two parts
module _ (first second : List ℕ) (from : ℕ) (entries : List ℕ) where
  pub placed_first : from + length entries ≤ length first
      → placed (first ++ second) from entries ≡ placed first from entries ++ second
  placed_first h =
      ap (λ l. l ++ entries ++ drop (from + length entries) (first ++ second))
      (take-append-le from first second (omega arith)) ∙
      ap (λ l. take from first ++ entries ++ l) (drop-append-le (from + length entries) first second h) ∙
      sym (append_assoc (take from first ++ entries) (drop (from + length entries) first) second)

  pub placed_second : placed (first ++ second) (length first + from) entries ≡ first ++ placed second from entries
  placed_second =
      let end : length first + from + length entries ≡ length first + (from + length entries) = omega arith in
      ap (λ l. l ++ entries ++ drop (length first + from + length entries) (first ++ second))
      (take-append-add first second from) ∙
      ap (λ n. first ++ take from second ++ entries ++ drop n (first ++ second)) end ∙
      ap (λ l. first ++ take from second ++ entries ++ l) (drop-append-add first second (from + length entries)) ∙
      simp append_assoc

-- over zeros
pub placed-zeros : (said : List ℕ) (zeros : ℕ) (entries : List ℕ)
    → placed (said ++ replicate zeros 0) (length said) entries
    ≡ (said ++ entries) ++ replicate (zeros - length entries) 0
placed-zeros said zeros entries =
    ap (λ l. l ++ entries ++ drop (length said + length entries) (said ++ replicate zeros 0))
    (take_at said (replicate zeros 0) (length said) refl) ∙
    ap (λ l. said ++ entries ++ l)
    (drop-append-add said (replicate zeros 0) (length entries) ∙ drop-zeros (length entries) zeros)

-- Two numbers and the directory make the front of an image.
pub placed-front : (image : List ℕ) (size pages : ℕ) (directory : List ℕ)
    → placed (placed (placed image 0 (size % 256 ∷ size / 256 ∷ [])) 2 (pages % 256 ∷ pages / 256 ∷ [])) 4 directory
    ≡ heading_for size pages (directory ++ drop (4 + length directory) image)
placed-front image size pages directory =
    let heading = heading_for size pages [] in
    let end : 0 + length (heading ++ directory) ≡ 4 + length directory = omega arith in
    ap (λ l. placed l 4 directory)
    (placed_twice image 0 (size % 256 ∷ size / 256 ∷ []) (pages % 256 ∷ pages / 256 ∷ []) (omega arith)) ∙
    placed_twice image 0 heading directory (omega arith) ∙
    ap (λ n. (heading ++ directory) ++ drop n image) end
