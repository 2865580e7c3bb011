-- `put_number` puts two texts, one behind the other: the name, and what `spell` left at the end of a text of its own,
-- which is the number's digits, twenty at most.
use Rattle.common.proofs.Ground.{arith, length-append}
use Rattle.text.specs.Text.{decimal}
use Rattle.text.proofs.Placing.{placed_by_two}
use Rattle.text.proofs.Digits.{digits_most, from_first}
use Rattle.text.proofs.put_number.Goals as goal

pub returns : goal.returns
returns c =
    let line = c.args.line.now in
    let name = c.args.name.now in
    let digits = decimal c.args.n in
    let put =
    placed_by_two line c.put_text-behind.new.line c.put_text.new.line name _ digits c.args.at c.put_text-behind.result
    c.put_text.result (omega (arith, c.requires.room)) (c.put_text-behind.ensures.put, c.put_text-behind.ensures.behind) (c.put_text.ensures.put, c.put_text.ensures.behind)
    (from_first c.spell-from.new.text digits c.spell-from.result c.spell-from.ensures.size
    c.spell-from.ensures.spelled) in record {
      put = put.0;
      behind = put.1;
      within = omega (arith, put.1, length-append name digits, digits_most 20 c.args.n);
    }
