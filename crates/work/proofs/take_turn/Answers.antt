-- The station of the key stops waiting, the page's leaf gets the least key of those that go on waiting, and the moves
-- are relaxed: with that the page's only turn is made, and the page is left (proofs/Turning.antt).
use Rattle.common.proofs.Ground.{arith}
use Rattle.work.proofs.Turning.{place, LeafSet, leaf_put, last_asks, last_turn}
use Rattle.work.proofs.take_turn.Goals as goal

pub bounds-memory-slot_of : goal.bounds-memory-slot_of
bounds-memory-slot_of c =
    let hand = c.requires.in_hand.2 in
    let own = place hand (omega arith) c.requires.somebody in
    omega (arith, c.slot_of.ensures.value, rw (← c.station_of-u.ensures.value) at own.slot, hand.board.room)

pub relax_moves-requires : goal.relax_moves-requires
relax_moves-requires c =
    let leaf : LeafSet c.args.places.now c.args.p c.args.key c.args.memory.now c.station_of-u.result c.slot_of.result
    c.set_leaf.new.queue
    = record {
      named = c.station_of-u.ensures.value;
      slotted = c.slot_of.ensures.value;
      put = leaf_put c.args.places.now _ c.first_slot-lo.ensures.value c.first_slot-hi.ensures.value
          c.least_key-others.ensures.least c.set_leaf.ensures.changed;
    } in
    let (station, (cost, (room, row))) = last_asks c.requires.in_hand.2 (omega arith) c.requires.somebody leaf in
    record { station = station; cost = cost; room = room; row = row }

pub returns : goal.returns
returns c =
    let leaf : LeafSet c.args.places.now c.args.p c.args.key c.args.memory.now c.station_of-u.result c.slot_of.result
    c.set_leaf.new.queue
    = record {
      named = c.station_of-u.ensures.value;
      slotted = c.slot_of.ensures.value;
      put = leaf_put c.args.places.now _ c.first_slot-lo.ensures.value c.first_slot-hi.ensures.value
          c.least_key-others.ensures.least c.set_leaf.ensures.changed;
    } in
    record {
      worked = λ q k hand. last_turn hand (omega arith) c.requires.somebody leaf (omega arith)
          c.relax_moves.ensures.relaxed;
    }
