-- The order of two lists by the records that come next, where these are not equal. For the code: nothing that is
-- promised speaks of it.
use Rattle.std.specs.Prelude.{Option, Some, None}
use Rattle.move_record.specs.declared.MoveRecord.{MoveRecord}
use Rattle.ordering.specs.Order.{Order, first_less, equal, second_less, by_record}

abbrev pub next_order : Option MoveRecord → Option MoveRecord → Order
next_order (Some r) (Some s) = by_record r s
next_order (Some r) None = second_less
next_order None (Some s) = first_less
next_order None None = equal
