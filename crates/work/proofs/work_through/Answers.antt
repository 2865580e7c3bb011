use Rattle.common.proofs.Ground.{◌≡◌, ◌+◌, ◌-◌, inl, inr, arith, rules}
use Rattle.work.proofs.Turning.{turn_asks, turned, over}
use Rattle.work.proofs.work_through.Goals as goal
use Rattle.work.proofs.work_through.Goals.{else-loop-test, then-loop-test+then-least-ge-NOBODY}

pub visit-requires : goal.visit-requires
visit-requires c =
    let (q, k, hand) = c.requires.in_hand in
    let (station, (cost, (room, (placed, row)))) =
    turn_asks (c.loop.invariant.0 q k hand) (omega arith) c.if-least-ge-NOBODY.false in
    rw c.station_of.ensures.value (record { station = station; cost = cost; room = room; placed = placed; row = row })

pub loop-preserved : goal.loop-preserved
loop-preserved c =
    let turn : c.args.turns - (c.loop.counter + 1) ≡ c.args.turns - c.loop.counter - 1 = omega arith in (
      λ q k hand.
          rw turn (turned (c.loop.invariant.0 q k hand) (omega arith) c.if-least-ge-NOBODY.false
          c.station_of.ensures.value c.visit.ensures.visited
          c.first_slot-lo.ensures.value c.first_slot-hi.ensures.value c.least_key-least.ensures.least),
      search rules,
    )

pub set_leaf-requires-clause-groups : goal.set_leaf-requires-clause-groups
set_leaf-requires-clause-groups c =
    let (q, k, hand) = c.requires.in_hand in
    (c.loop.invariant.0 q k hand).board.room.groups

pub returns : goal.returns
returns c = record {
  worked = λ q k hand. over (c.loop.invariant.0 q k hand)
      (elim c.loop-test.branch [
        | else-loop-test w ↦ inl (omega arith)
        | then-loop-test+then-least-ge-NOBODY w ↦ inr w.if-least-ge-NOBODY.true
      ])
      c.set_leaf.ensures.changed;
}
