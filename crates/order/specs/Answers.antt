-- What the naming call's answer says in the papers' words.
use Rattle.std.specs.Prelude.{Result, Ok, Err}
use Rattle.std.specs.declared.cmp.Ordering.{Ordering}
use Rattle.std.specs.declared.cmp.Ordering.TheVariants.{Less, Equal, Greater}
use Rattle.image.specs.Image.{number_of, place_of}
use Rattle.ordering.specs.Order.{Order, first_less, equal, second_less, Naming, ordered, first_refused, second_refused}
use Rattle.order.specs.declared.OrderRefusal.{OrderRefusal}
use Rattle.order.specs.declared.OrderRefusal.TheVariants.{First, Second}

abbrev pub order_in : Ordering → Order
order_in Less = first_less
order_in Equal = equal
order_in Greater = second_less

abbrev pub naming_in : Result Ordering OrderRefusal → Naming
naming_in (Ok order) = ordered (order_in order)
naming_in (Err (First refusal)) = first_refused (number_of refusal) (place_of refusal)
naming_in (Err (Second refusal)) = second_refused (number_of refusal) (place_of refusal)
