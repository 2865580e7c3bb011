-- Both walks begin with all records left; what they have in common is passed, and the next records decide
-- (proofs/Walking.antt).
use Rattle.common.proofs.Ground.{sym, ◌∙◌}
use Rattle.order.proofs.Walking.{next_decides}
use Rattle.order.proofs.by_records.Goals as goal

pub returns : goal.returns
returns c =
    let images = c.pass_stations-u.ensures.images in
    let passed = c.pass_stations-u.ensures.passed in
    record {
      value = c.by_next.ensures.value ∙
          next_decides _ _ _ _ _ _ c.next_record-r.result c.next_record-s.result
          (c.next_record-r.ensures.next passed.walking.first_left (rw images.0 passed.walking.first_stands))
          (c.next_record-s.ensures.next passed.walking.second_left (rw images.1 passed.walking.second_stands))
          passed.part ∙
          rw (c.new-first.ensures.image, c.new-second.ensures.image) at (sym passed.walking.same);
    }
