-- `put_accepted`: two numbers and the line's end behind what `put_source` wrote.
use Rattle.line.proofs.Fronting.{fronted_more}
use Rattle.text.specs.Text.{ascii, named}
use Rattle.line.specs.Line.{source_words, accepted_line}
use Rattle.line.proofs.lines.put_accepted.Goals as goal

pub returns-clause-put : goal.returns-clause-put
unfolding ascii source_words accepted_line
returns-clause-put c =
    let one = fronted_more (named " pages " c.args.count) c.put_source-at.ensures.put
    c.put_number-at.ensures.put c.put_number-at.ensures.behind in
    let two = fronted_more (named " reached " c.args.reached) one
    c.put_number-at-2.ensures.put c.put_number-at-2.ensures.behind in
    fronted_more (ascii "\n") two c.put_text.ensures.put c.put_text.ensures.behind
