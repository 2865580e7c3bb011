-- `spell`: at each turn the digits of the rest belong before those that stand already (proofs/Digits.antt).
use Rattle.text.proofs.Digits.{Spelling}
use Rattle.text.proofs.spell.Given as goal

abbrev pub invariant-loop-at : goal.invariant-loop-at
invariant-loop-at l = Spelling l.n l.text l.rest l.at
