-- `answer_turn`: in each arm the number of bytes read says what the input has (proofs/Turns.antt), and the line is that
-- of `answer_record`, or nothing, or `short`.
use Rattle.common.proofs.Ground.{arith}
use Rattle.text.specs.Text.{ascii}
use Rattle.line.proofs.Fronting.{fronted_none, fronted_more}
use Rattle.coil.proofs.Turns.{turned_record, turned_none, turned_short}
use Rattle.coil.proofs.program.answer_turn.Goals as goal

pub returns-in-0-clause-turn : goal.returns-in-0-clause-turn
returns-in-0-clause-turn c =
    λ input read. turned_none c.args.image.now input c.args.bytes.now c.args.size (omega arith) read
    c.args.line.now (omega arith)

pub returns-in-1-to-7-clause-turn : goal.returns-in-1-to-7-clause-turn
unfolding ascii
returns-in-1-to-7-clause-turn c =
    let short = fronted_more (ascii "short\n") (fronted_none c.args.line.now) c.put_text.ensures.put
    c.put_text.ensures.behind in
    λ input read. turned_short c.args.image.now input c.args.bytes.now c.args.size (omega arith) read
    (omega arith) (omega arith) short

pub returns-in_default-clause-turn : goal.returns-in_default-clause-turn
returns-in_default-clause-turn c =
    λ input read. turned_record c.args.image.now input c.args.bytes.now c.args.size (omega arith) read
    (omega arith) (record { line = c.answer_record.ensures.line; size = c.answer_record.ensures.size })
