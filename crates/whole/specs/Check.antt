-- The whole check: "does 1 to 5, then the pages by rising number" (01, "Route, whole check, program").
use Rattle.std.specs.Prelude.{List, ℕ, zero, suc}
use Rattle.image.specs.Image.{Outcome, accepted, refused, on_page, heading_check, after_heading, page_count}
use Rattle.page.specs.Reading.{Reading, good, bad, reading_of}

-- The outcome of one page, and behind it that of what follows where the page is good.
abbrev pub page_outcome : ℕ → Reading → Outcome → Outcome
page_outcome p (good moves stations) following = following
page_outcome p (bad number offset) following = refused number (on_page p offset)

-- So many pages by rising number, from page p on.
unfoldable pub pages_from : List ℕ → ℕ → ℕ → Outcome
pages_from image zero p = accepted
pages_from image (suc count) p =
    let following = pages_from image count (suc p) in page_outcome p (reading_of image p) following

unfoldable pub whole_check : List ℕ → Outcome
whole_check image = after_heading (heading_check image) (pages_from image (page_count image) 0)
