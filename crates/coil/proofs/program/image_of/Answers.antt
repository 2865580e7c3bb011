-- What was read is the image (proofs/Turns.antt).
use Rattle.common.proofs.Ground.{rules}
use Rattle.coil.proofs.Turns.{image_taken}
use Rattle.coil.proofs.program.image_of.Goals as goal

pub returns : goal.returns
returns c = record {
  image = λ file read. image_taken file c.args.buffer.now c.args.size (search rules) read _ c.min.ensures;
}
