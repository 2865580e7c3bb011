-- Where a page's fault can stand: within the page or right behind it, so that its offset is 256 at most; and which
-- number it has. By induction over the commands read, each of which ends within the page.
use Rattle.common.proofs.Ground.{List, ℕ, suc, ◌≤◌, arith, length}
use Rattle.commands.specs.declared.Move.{Move}
use Rattle.commands.proofs.Lengths.{PageNumber, of-page}
use Rattle.image.specs.Image.{directory_of, page_bytes}
use Rattle.page.specs.Reading.{Reading, good, bad, with_move, with_station, read_page, reading_of}
use Rattle.image.proofs.Parts.{page_short}
use Rattle.page.proofs.Reading.Steps.{by_commands}

-- A reading whose fault, if it has one, has a page's number and stands at an offset up to a limit.
abbrev pub FaultBy : ℕ → Reading → Type 0
FaultBy limit (good moves stations) = Unit {0}
FaultBy limit (bad number offset) = PageNumber number × (offset ≤ limit)

module _ (limit : ℕ) where
  after_station : (v : ℕ) (r : Reading) → FaultBy limit r → FaultBy limit (with_station v r)
  after_station v (good moves stations) k = tt
  after_station v (bad number offset) k = k

  after_move : (m : Move) (r : Reading) → FaultBy limit r → FaultBy limit (with_move m r)
  after_move m (good moves stations) k = tt
  after_move m (bad number offset) k = k

page_in : (directory : List ℕ) (p : ℕ) (page : List ℕ) (limit : ℕ) → length page ≤ limit
    → FaultBy limit (read_page directory p page)
unfolding read_page
page_in directory p page limit short =
    by_commands directory p page (λ at after least r. at ≤ limit → FaultBy limit r)
    (λ at after least number known h. (of-page number known, h))
    (λ at after least j h. tt)
    (λ at after least v j r k h. after_station limit v r (k (omega arith)))
    (λ at after least code m j r k h. after_move limit m r (k (omega (arith, j.0.ends))))
    (suc (length page)) 0 0 0 (omega arith)

module _ (image : List ℕ) where
  pub reading_by_256 : (p : ℕ) → FaultBy 256 (reading_of image p)
  unfolding reading_of
  reading_by_256 p = page_in (directory_of image) p (page_bytes image p) 256 (page_short image p)
