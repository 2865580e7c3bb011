-- Both directories list the same number of stations; a station that is passed in both is behind the walks, and one that
-- is not parts them (proofs/Listed.antt, proofs/Walking.antt).
use Rattle.common.proofs.Ground.{◌≤◌, subst, arith, ⊎_elim}
use Rattle.image.specs.Image.{station_count}
use Rattle.order.specs.Passing.{PassedStations}
use Rattle.order.proofs.Listed.{listed, near, none_comes, comes, its_page, onward}
use Rattle.order.proofs.Walking.{station_passed, station_parted, all_passed}
use Rattle.order.proofs.passing.pass_stations.Goals as goal

pub pass_station-requires : goal.pass_station-requires
pass_station-requires c =
    let (images, left, walking) = c.loop-u.invariant in
    let next = c.in-Some.ensures.steps.0 in
    record {
      near = (
        rw (its_page _ c.args.first.now.whole _ left.0 next.0)
            (near _ c.args.first.now.whole walking.first_stands (comes _ c.args.first.now.whole _ left.0 next.0)),
        rw (its_page _ c.args.second.now.whole _ left.1 next.1)
            (near _ c.args.second.now.whole walking.second_stands (comes _ c.args.second.now.whole _ left.1 next.1)),
      );
    }

pub returns-then-not-pass_station-clause-passed : goal.returns-then-not-pass_station-clause-passed
returns-then-not-pass_station-clause-passed c =
    let (images, left, walking) = c.loop-u.invariant in
    let (next, here, count, fits) = c.in-Some.ensures.steps in
    rw here
    (station_parted _ _ c.args.first.now.whole c.args.second.now.whole c.requires.stations _ _ _ walking
    (comes _ c.args.first.now.whole _ left.0 next.0)
    (rw (
      ← its_page _ c.args.first.now.whole _ left.0 next.0,
      ← its_page _ c.args.second.now.whole _ left.1 next.1,
      ← images.0,
      ← images.1,
      ← c.if-not-pass_station.true,
    ) c.pass_station.ensures.passed))

pub loop-u-preserved : goal.loop-u-preserved
loop-u-preserved c =
    let (images, left, walking) = c.loop-u.invariant in
    let (next, here, count, fits) = c.in-Some.ensures.steps in (
      search,
      rw count (onward _ c.args.first.now.whole _ left.0 next.0, onward _ c.args.second.now.whole _ left.1 next.1),
      rw count
          (station_passed _ _ c.args.first.now.whole c.args.second.now.whole c.requires.stations _ _ _ walking
          (comes _ c.args.first.now.whole _ left.0 next.0)
          (rw (
            ← its_page _ c.args.first.now.whole _ left.0 next.0,
            ← its_page _ c.args.second.now.whole _ left.1 next.1,
            ← images.0,
            ← images.1,
            ← c.if-not-pass_station.false,
          ) c.pass_station.ensures.passed)),
    )

pub returns-clause-passed : goal.returns-clause-passed
returns-clause-passed c =
    let (images, left, walking) = c.loop-u.invariant in
    let over : station_count c.args.first.now.image.now ≤ c.loop-u.u-iterator.count =
    ⊎_elim (λ ends. none_comes _ c.args.first.now.whole _ left.0 ends.1.0)
    (λ ends. omega (arith, c.requires.stations, none_comes _ c.args.second.now.whole _ left.1 ends.1.0))
    c.in-None.ensures.steps.0 in
    let count = listed _ c.args.first.now.whole c.directory_of-directory.ensures.part in
    subst (PassedStations _ _ _ _) (omega (arith, over, walking.first_stands.came, count))
    (all_passed _ _ c.args.first.now.whole c.args.second.now.whole c.requires.stations _ _ _ walking over)
