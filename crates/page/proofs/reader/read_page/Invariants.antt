-- Both loops keep `Progress` (proofs/Reading/Progress.antt): what is left to read decides the verdict, and the stations
-- named so far have their rows. Each arm of the match is one step of it. The inner loop does not know the layout that
-- the function was lent, so that it keeps progress over any layout of before.
use Rattle.common.proofs.Ground.{List, ℕ, ◌-◌, ◌≤◌, length}
use Rattle.page.proofs.Reading.Progress.{Progress}
use Rattle.page.proofs.reader.read_page.Given as goal

abbrev pub invariant-loop-m : goal.invariant-loop-m
invariant-loop-m l =
    (l.initial.at ≤ l.at)
    × ((before : List ℕ) → Progress l.directory l.places l.p l.page l.strip before l.initial.layout l.due l.initial.at l.after l.initial.least l.initial.k
    → Progress l.directory l.places l.p l.page l.strip before l.layout l.due l.at l.after l.least l.k)

abbrev pub decreases-loop-m : goal.decreases-loop-m
decreases-loop-m l =
    length l.page - l.at

abbrev pub invariant-page : goal.invariant-page
invariant-page l =
    Progress l.directory l.places l.p l.page l.strip l.initial.layout l.layout l.due l.at l.after l.least l.k

abbrev pub decreases-page : goal.decreases-page
decreases-page l =
    length l.page - l.at
