-- The loop's invariant: the walks are of the same images, and stand at station u, from which on both directories are
-- left (proofs/Walking.antt).
use Rattle.common.proofs.Ground.{◌≡◌, drop}
use Rattle.image.specs.Image.{directory_of}
use Rattle.order.specs.Passing.{Walking}
use Rattle.order.proofs.passing.pass_stations.Given as goal

abbrev pub invariant-loop-u : goal.invariant-loop-u
invariant-loop-u l =
    ((l.first.image ≡ l.fn.first.image) × (l.second.image ≡ l.fn.second.image)) ×
    ((l.u-iterator.iter.a.rest.now ≡ drop l.u-iterator.count (directory_of l.fn.first.image.now)) ×
    (l.u-iterator.iter.b.rest.now ≡ drop l.u-iterator.count (directory_of l.fn.second.image.now))) ×
    Walking l.fn.first.image.now l.fn.second.image.now l.first.offsets l.second.offsets l.u-iterator.count
