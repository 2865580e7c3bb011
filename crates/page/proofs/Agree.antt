-- What a page's reading depends on: the directory, N with it, and that page's bytes alone.
use Rattle.common.proofs.Ground.{◌≡◌, List, ℕ}
use Rattle.image.specs.Image.{AgreeOnDirectory, AgreeOnPage}
use Rattle.page.specs.Reading.{reading_of}

pub reading_agrees : (image other : List ℕ) (p : ℕ) → AgreeOnDirectory image other → AgreeOnPage p image other
    → reading_of image p ≡ reading_of other p
unfolding reading_of
reading_agrees image other p d e = rw (d, e)
