-- The directory and the page that the reader is handed are the image's.
use Rattle.page.specs.Reading.{reading_of}
use Rattle.page.proofs.read_page_of.Goals as goal

pub returns : goal.returns
unfolding reading_of
returns c = record {
  verdict = rw (← c.directory_of.ensures.part, ← c.page_of.ensures.part) c.read_page.ensures.verdict;
  laid = rw (← c.directory_of.ensures.part, ← c.page_of.ensures.part) c.read_page.ensures.laid;
  others = rw (← c.directory_of.ensures.part) c.read_page.ensures.others;
}
