-- In each arm what is shown is known, and the float is the definition's.
use Rattle.common.proofs.Ground.{sym, ap}
use lib.Ieee.{of_bits, of_int}
use Rattle.panel.specs.Panel.{outside}
use Rattle.panel.proofs.one_float.Goals as goal

pub returns-in-NoRoute : goal.returns-in-NoRoute
unfolding of_bits of_int
returns-in-NoRoute c = record { value = ap outside (sym c.in-NoRoute.is) }
