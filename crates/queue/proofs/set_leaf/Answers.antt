-- The group of the leaf is computed anew (`put_set`).
use Rattle.queue.proofs.Groups.{put_set}
use Rattle.queue.proofs.set_leaf.Goals as goal

pub returns : goal.returns
returns c = record {
  changed = put_set _ _ _ _ c.requires.page c.requires.groups c.least_key.ensures.least;
}
