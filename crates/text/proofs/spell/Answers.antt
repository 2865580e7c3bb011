use Rattle.common.proofs.Ground.{◌-◌, arith}
use Rattle.text.proofs.Digits.{spell_last, spell_more}
use Rattle.common.proofs.Ground.{rules}
use Rattle.text.proofs.spell.Goals as goal

pub returns-then-rest-lt10 : goal.returns-then-rest-lt10
returns-then-rest-lt10 c = record {
  spelled = spell_last c.args.n c.loop-at.text c.loop-at.rest c.loop-at.at (c.loop-at.at - 1) _ (omega arith)
      c.last_digit.ensures.value c.loop-at.invariant c.if-rest-lt10.true;
  inside = search rules;
  size = search rules;
}

pub loop-at-preserved : goal.loop-at-preserved
loop-at-preserved c =
    spell_more c.args.n c.loop-at.text c.loop-at.rest c.loop-at.at (c.loop-at.at - 1) _
    (omega arith) c.last_digit.ensures.value c.loop-at.invariant c.if-rest-lt10.false
