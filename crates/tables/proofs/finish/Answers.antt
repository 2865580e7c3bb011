use Rattle.common.proofs.Ground.{◌≡◌, refl, Bool, true, false, arith}
use mir.Val.{bool_byte}
use Rattle.net.specs.Net.{one}
use Rattle.tables.proofs.Finishing.{finishing_none, few_reached, finishing_more}
use Rattle.tables.proofs.finish.Goals as goal

counts : (has : Bool) → bool_byte has ≡ one has
counts true = refl
counts false = refl

pub loop-v-init : goal.loop-v-init
loop-v-init c = finishing_none _ _ _ _ _

pub loop-v-preserved : goal.loop-v-preserved
loop-v-preserved c =
    rw (
      c.write_station.ensures.times,
      c.write_station.ensures.moves,
      c.write_station.ensures.preds,
      c.from-reached.ensures,
      c.write_station.ensures.reached,
      counts,
    ) (finishing_more c.loop-v.invariant (omega arith) (omega arith) (omega arith))

pub overflow_add-reached : goal.overflow_add-reached
overflow_add-reached c = omega (arith, few_reached (loop-v-preserved c))
