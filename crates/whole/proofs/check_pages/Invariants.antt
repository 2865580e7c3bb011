-- The loop's invariant: the pages from this one on decide as all the pages do, and the layout keeps its length. A page read as
-- good hands on to the next one, and the first that is bad is the outcome (proofs/Pages.antt).
use Rattle.common.proofs.Ground.{◌≡◌, ◌-◌, length}
use Rattle.image.specs.Image.{page_count}
use Rattle.whole.specs.Check.{pages_from}
use Rattle.whole.proofs.check_pages.Given as goal

abbrev pub invariant-loop-page : goal.invariant-loop-page
invariant-loop-page l =
    (pages_from l.image (l.pages - l.page-counter) l.page-counter ≡ pages_from l.image (page_count l.image) 0) × (length l.layout ≡ 17152)
