use Rattle.common.proofs.Ground.{refl, ℕ, ◌<◌, arith, length, get_or}
use Rattle.imaging.proofs.Pages.Filling.{filled_none, filled_all, filled_room, filled_more}
use Rattle.imaging.proofs.stations.write_pages.Goals as goal

pub loop-u-init : goal.loop-u-init
loop-u-init c =
    let cleared = c.fill.ensures.after (λ y e. e) in
    filled_none c.args.records.now c.args.directory.now (length c.args.bytes.now) c.requires.fitting _ c.fill.new.self refl
    (rw c.fill.ensures.len cleared) c.fill.ensures.len

pub overflow_add-from : goal.overflow_add-from
overflow_add-from c =
    let page : ℕ = get_or c.args.directory.now c.loop-u.u 0 in
    let room = filled_room c.args.records.now c.args.directory.now _ c.requires.fitting c.loop-u.ends
    c.loop-u.bytes c.loop-u.left.now c.loop-u.u page c.loop-u.invariant c.loop-u-test.true refl in
    omega (arith, room, c.loop-u.invariant.bytes_length)

pub write_station-behind-requires : goal.write_station-behind-requires
write_station-behind-requires c =
    let records = c.args.records.now in
    let page : ℕ = get_or c.args.directory.now c.loop-u.u 0 in
    record {
      room =
          filled_room records c.args.directory.now _ c.requires.fitting c.loop-u.ends
          c.loop-u.bytes c.loop-u.left.now c.loop-u.u page c.loop-u.invariant c.loop-u-test.true refl;
    }

pub loop-u-preserved : goal.loop-u-preserved
loop-u-preserved c =
    let records = c.args.records.now in
    let page : ℕ = get_or c.args.directory.now c.loop-u.u 0 in
    let left = c.loop-u.left.now in
    let byte : page < 256 = omega (arith, c.type_inv.directory c.loop-u.u) in
    rw (c.split_at.ensures.back, c.write_station-behind.ensures.written)
    (filled_more records c.args.directory.now _ c.requires.fitting c.loop-u.ends c.loop-u.bytes
    left c.loop-u.u page c.loop-u.invariant c.loop-u-test.true refl _ _ byte c.write_station-behind.ensures.put
    c.write_station-behind.auto.bytes)

pub returns : goal.returns
returns c = record {
  written = filled_all c.args.records.now c.args.directory.now _ c.requires.fitting c.loop-u.ends c.loop-u.bytes c.loop-u.left.now
      c.loop-u.u c.loop-u.invariant (omega (arith, c.loop-u-test.false, c.loop-u.invariant.inside));
}
