-- The stations are placed by the directory, and only the source is written into cells, keys and queue that are
-- nobody's. So a search on the image may begin (proofs/Beginning.antt), and the search ends as the run does.
use Rattle.common.proofs.Ground.{ap, arith, length}
use Rattle.image.specs.Bytes.{Bytes}
use Rattle.image.specs.Image.{directory_of}
use Rattle.layout.specs.Places.{Placed}
use Rattle.image.proofs.Heading.{formed}
use Rattle.engine.proofs.Beginning.{begin_asks, begun_image}
use Rattle.engine.proofs.search_in.Goals as goal

pub place-requires-clause-stations : goal.place-requires-clause-stations
place-requires-clause-stations c =
    let f = formed c.args.image.now c.requires.formed in
    omega (arith, ap length c.directory_of.ensures.part, f.directory, f.stations_most)

pub offer-requires : goal.offer-requires
offer-requires c =
    let bytes : Bytes c.args.image.now = λ i. omega (arith, c.type_inv.image i) in
    let placed : Placed (directory_of c.args.image.now) c.place.new.places =
    rw c.directory_of.ensures.part at c.place.ensures.placed in
    let (from, (to, (cost, (room, placed_at)))) =
    begin_asks c.args.query c.args.image.now bytes c.requires.formed c.requires.source placed c.requires.cells in
    rw c.from-source.ensures (record { from = from; to = to; cost = cost; room = room; placed = placed_at })

pub run-requires : goal.run-requires
run-requires c =
    let bytes : Bytes c.args.image.now = λ i. omega (arith, c.type_inv.image i) in
    let placed : Placed (directory_of c.args.image.now) c.place.new.places =
    rw c.directory_of.ensures.part at c.place.ensures.placed in
    record {
      begun = begun_image c.args.query c.args.image.now bytes c.requires.formed c.requires.source placed
          c.requires.cells (rw c.from-source.ensures at c.offer.ensures.relaxed) c.requires.room;
    }
