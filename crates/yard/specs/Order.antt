-- What the order of two maps as a C call promises: what is said of them in the caller's numbers and, of what is said,
-- all that the naming call promises every caller (ordering/specs/Promises.antt).
use Rattle.std.specs.Prelude.{◌≡◌, List, ℕ}
use Rattle.ordering.specs.Order.{naming}
use Rattle.ordering.specs.Promises.{NamingPromised}
use Rattle.telling.specs.Numbers.{told, told_by, of_order}

pub record OrderTold (first second : List ℕ) (status : ℕ) (before answer : List ℕ) : Type 0 where
  pub outcome : told status answer ≡ told_by (of_order (naming first second)) before
  pub promised : NamingPromised first second (naming first second)
