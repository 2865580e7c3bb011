-- `put_refusal`: two numbers and the line's end, each behind what is written already.
use Rattle.line.proofs.Fronting.{fronted_none, fronted_more}
use Rattle.text.specs.Text.{ascii, named}
use Rattle.line.specs.Line.{refusal_line}
use Rattle.line.proofs.lines.put_refusal.Goals as goal

pub returns-clause-put : goal.returns-clause-put
unfolding ascii refusal_line
returns-clause-put c =
    let one = fronted_more (named "coil " c.args.coil) (fronted_none c.args.line.now)
    c.put_number-at.ensures.put c.put_number-at.ensures.behind in
    let two = fronted_more (named " refused " c.args.number) one
    c.put_number-at-2.ensures.put c.put_number-at-2.ensures.behind in
    fronted_more (ascii "\n") two c.put_text.ensures.put c.put_text.ensures.behind
