-- The loop's invariant is the replay so far (proofs/Replaying.antt).
use Rattle.store.proofs.Replaying.{Replaying}
use Rattle.store.proofs.references.replay_list.Given as goal

abbrev pub invariant-loop-p : goal.invariant-loop-p
invariant-loop-p l =
    Replaying l.plant.pages l.plant.distances.now l.plant.threshold l.plant.frames l.list l.links.older l.links.newer
    l.last l.reads l.p-index
