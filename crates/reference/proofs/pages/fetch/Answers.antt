-- A station whose row has an end is on a known page. Otherwise the page is read, and known from then on if it is good
-- (proofs/Fetching.antt).
use Rattle.reference.proofs.Fetching.{read_fetched}
use Rattle.reference.proofs.pages.fetch.Goals as goal

pub returns : goal.returns
returns c = record {
  fetched = read_fetched c.requires.known c.read_page_of.array_long c.read_page_of.ensures.verdict c.read_page_of.ensures.laid
      c.read_page_of.ensures.others;
}
