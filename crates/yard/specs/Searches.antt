-- What a search as a C call promises: its reply in the caller's numbers and, of that reply and of the tables as the
-- call left them, all that the search promises every caller (search/specs/Promises.antt).
use Rattle.std.specs.Prelude.{◌≡◌, List, ℕ}
use Rattle.reply.specs.Reply.{Query, NetSearch, Lent, Handed, handed, searched}
use Rattle.telling.specs.Numbers.{told, told_by, of_search}

pub record SearchTold (search : NetSearch) (Promise : Query → Lent → Handed → Type 0) (q : Query) (t left : Lent)
    (status : ℕ) (before answer : List ℕ) : Type 0 where
  pub outcome : told status answer ≡ told_by (of_search (searched search q t).reply) before
  pub promised : Promise q t (handed (searched search q t).reply left)
