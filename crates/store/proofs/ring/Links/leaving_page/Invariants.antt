-- The loop's invariant: whatever pages are held, the way back from the end has come so far (proofs/Leaving.antt).
use Rattle.common.proofs.Ground.{◌≡◌, List, ℕ, ◌-◌, length}
use Rattle.paging.specs.Store.{is_far}
use Rattle.store.specs.Ring.{Ring}
use Rattle.store.proofs.Leaving.{Walked}
use Rattle.store.proofs.ring.Links.leaving_page.Given as goal

abbrev pub invariant-loop-passed : goal.invariant-loop-passed
invariant-loop-passed l =
    (held older : List ℕ) → Ring l.plant.pages held older l.self.newer → length held ≡ l.plant.frames
    → Walked (is_far l.plant.pages l.plant.distances.now l.plant.threshold l.last) held l.p (l.plant.frames - l._passed)
