-- The group of the leaf is lowered by the same key (`put_lower`).
use Rattle.queue.proofs.Groups.{put_lower}
use Rattle.queue.proofs.lower_leaf.Goals as goal

pub returns : goal.returns
returns c = record {
  lowered = put_lower _ _ _ _ _ c.requires.page c.requires.groups c.min.ensures c.min-2.ensures;
}
