use Rattle.common.proofs.Ground.{refl, ◌<◌, arith, length}
use Rattle.image.specs.Bytes.{Bytes}
use Rattle.image.specs.Image.{directory_of}
use Rattle.listing.proofs.Stations.{stations_begin, page_there, station_room}
use Rattle.listing.proofs.Stations.{station_next, stations_end}
use Rattle.listing.proofs.keep_stations.Goals as goal

pub loop-u-init : goal.loop-u-init
loop-u-init c =
    let image_bytes : Bytes c.args.image.now = λ i. omega (arith, c.type_inv.image i) in
    stations_begin _ c.requires.whole image_bytes _ c.requires.memory

pub keep_station-passed-requires : goal.keep_station-passed-requires
keep_station-passed-requires c =
    let image_bytes : Bytes c.args.image.now = λ i. omega (arith, c.type_inv.image i) in
    let due : c.loop-u.u < length (directory_of c.args.image.now) = rw c.directory_of-p-items.ensures.part at c.loop-u-test.true in
    record {
      own = rw c.directory_of-p-items.ensures.part refl;
      named = due;
      reached = rw c.directory_of-p-items.ensures.part
          (c.loop-u.invariant.reached _ (page_there _ c.requires.whole _ _ _ _ c.loop-u.invariant due));
      memory = c.loop-u.invariant.memory;
      room = station_room _ c.requires.whole _ _ _ _ c.loop-u.invariant due image_bytes;
    }

pub loop-u-preserved : goal.loop-u-preserved
loop-u-preserved c =
    let due : c.loop-u.u < length (directory_of c.args.image.now) = rw c.directory_of-p-items.ensures.part at c.loop-u-test.true in
    rw c.directory_of-p-items.ensures.part
    (station_next _ c.requires.whole _ _ _ _ c.loop-u.invariant due (rw c.directory_of-p-items.ensures.part at c.keep_station-passed.ensures.station))

pub returns : goal.returns
returns c =
    let whole = stations_end _ c.requires.whole _ _ _ _ c.loop-u.invariant (rw c.directory_of-p-items.ensures.part at c.loop-u-test.false) in record {
      count = whole.0;
      records = whole.1;
    }
