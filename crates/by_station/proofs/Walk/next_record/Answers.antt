-- What is read at the station is what stands there (proofs/Standing.antt): a move, which is the first record that is
-- left, or none, and then the walk stands at the next station.
use Rattle.common.proofs.Ground.{refl, ap, sym, ◌∙◌, arith, length}
use Rattle.by_station.proofs.Standing.{well-formed, read_due, read_over, read_page, read_there, offset_inside}
use Rattle.by_station.proofs.Standing.{standing_move, standing_next, standing_over}
use Rattle.by_station.proofs.Walk.next_record.Goals as goal

pub overflow_cast-u : goal.overflow_cast-u
overflow_cast-u c =
    let due = read_due _ c.args.self.now.whole _ _ c.directory_of-directory.ensures.part c.loop-u-test.true in
    omega (arith, (well-formed _ c.args.self.now.whole).stations_most)

pub returns-in-Some : goal.returns-in-Some
returns-in-Some c =
    let part = c.directory_of-directory.ensures.part in
    let due = read_due _ c.args.self.now.whole _ _ part c.loop-u-test.true in
    let found = read_there _ c.args.self.now.whole _ _ part c.loop-u.offsets _ c.page_of.ensures.part
    (sym c.next_move.ensures.value ∙ c.in-Some.is) in
    record {
      image = refl;
      next = λ left stands.
          rw (c.record_for.ensures.value, read_page _ c.args.self.now.whole c.loop-u.u _ part)
          (standing_move _ c.args.self.now.whole _ _ _ (c.loop-u.invariant left stands) due found);
    }

pub overflow_add-offsets : goal.overflow_add-offsets
overflow_add-offsets c =
    let part = c.directory_of-directory.ensures.part in
    let page = read_page _ c.args.self.now.whole c.loop-u.u _ part in
    let due = read_due _ c.args.self.now.whole _ _ part c.loop-u-test.true in
    let inside = offset_inside _ c.args.self.now.whole _ _ _ (c.loop-u.invariant _ c.requires.standing.1) due in
    omega (
      arith,
      c.length_of.ensures.value,
      ap length c.page_of.ensures.part,
      c.page_of.ensures.short,
      rw (← page) at inside,
    )

pub loop-u-preserved : goal.loop-u-preserved
loop-u-preserved c =
    let part = c.directory_of-directory.ensures.part in
    let due = read_due _ c.args.self.now.whole _ _ part c.loop-u-test.true in
    let none = read_there _ c.args.self.now.whole _ _ part c.loop-u.offsets _ c.page_of.ensures.part
    (sym c.next_move.ensures.value ∙ c.in-None.is) in
    λ left stands.
    rw (c.length_of.ensures.value, read_page _ c.args.self.now.whole c.loop-u.u _ part)
    (standing_next _ c.args.self.now.whole _ _ _ (c.loop-u.invariant left stands) due none)

pub returns : goal.returns
returns c = record {
  image = refl;
  next = λ left stands.
      standing_over _ c.args.self.now.whole _ _ _ (c.loop-u.invariant left stands)
      (read_over _ c.args.self.now.whole _ _ c.directory_of-directory.ensures.part c.loop-u-test.false);
}
