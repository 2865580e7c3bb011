-- `answer_record`: the parts are those of the record's bytes and the answer means the search's reply, so that the line
-- put is the record's (proofs/Answering.antt).
use Rattle.coil.proofs.Answering.{line_of_record}
use Rattle.coil.proofs.answer_record.Goals as goal

pub returns-clause-size : goal.returns-clause-size
returns-clause-size c =
    let is =
    line_of_record c.args.image.now c.args.bytes.now c.record_of-parts.ensures.coil c.record_of-parts.ensures.length c.record_of-parts.ensures.station c.search_from-answer.ensures.reply in
    rw is at c.put_line.ensures.put.size

pub returns-clause-line : goal.returns-clause-line
returns-clause-line c =
    let is =
    line_of_record c.args.image.now c.args.bytes.now c.record_of-parts.ensures.coil c.record_of-parts.ensures.length c.record_of-parts.ensures.station c.search_from-answer.ensures.reply in
    rw is at c.put_line.ensures.put.line
