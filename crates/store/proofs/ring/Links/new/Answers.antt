-- The two tables are a ring without pages.
use Rattle.store.proofs.Held.{ring_none}
use Rattle.store.proofs.ring.Links.new.Goals as goal

pub returns : goal.returns
returns c = record { nothing = λ pages few. ring_none pages few }
