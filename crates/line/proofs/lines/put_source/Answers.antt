-- `put_source`: each number is put behind the front of the line that is written already (proofs/Fronting.antt). No
-- place is past the most that three numbers of twenty digits take.
use Rattle.line.proofs.Fronting.{fronted_none, fronted_more}
use Rattle.text.specs.Text.{ascii, named}
use Rattle.line.specs.Line.{source_words}
use Rattle.line.proofs.lines.put_source.Goals as goal

pub returns-clause-put : goal.returns-clause-put
unfolding ascii source_words
returns-clause-put c =
    let one = fronted_more (named "coil " c.args.parts.coil) (fronted_none c.args.line.now)
    c.put_number-at.ensures.put c.put_number-at.ensures.behind in
    let two = fronted_more (named " length " c.args.parts.length) one
    c.put_number-at-2.ensures.put c.put_number-at-2.ensures.behind in
    fronted_more (named " from " c.args.parts.station) two c.put_number.ensures.put
    c.put_number.ensures.behind
