-- By the cases of the three tests: the station is not below N; no station of the page is left; or its slot is the one
-- that is due or not (proofs/Due.antt).
use Rattle.common.proofs.Ground.{sym, ◌∙◌, arith, tests}
use Rattle.rules.specs.Rules.{judge_station}
use Rattle.rules.proofs.Due.{none_is_due, due_passes, other_fails}
use Rattle.rules.proofs.judge_station.Goals as goal

pub returns-then-directory-v : goal.returns-then-directory-v
unfolding judge_station
returns-then-directory-v c = record {
  value = λ p after on. search tests;
}

pub returns-then-past-due : goal.returns-then-past-due
returns-then-past-due c = record {
  value = λ p after on. sym (none_is_due c.requires.placed on.page on.slot _ c.if-directory-v.false (omega (arith, on.ends, c.if-past-due.true)));
}

pub returns-then-slot_of-due : goal.returns-then-slot_of-due
returns-then-slot_of-due c = record {
  value = λ p after on. let byte = c.type_inv.directory c.args.v in
      let slot = sym c.slot_of.ensures.value ∙ c.if-slot_of-due.true in
      sym (due_passes c.requires.placed on.page on.slot _ c.if-directory-v.false (omega arith)
      (omega (arith, on.ends, c.if-past-due.false)) slot);
}

pub returns-else-slot_of-due : goal.returns-else-slot_of-due
returns-else-slot_of-due c = record {
  value = λ p after on. sym (other_fails c.requires.placed on.page on.slot _ c.if-directory-v.false
      (λ e. c.if-slot_of-due.false (c.slot_of.ensures.value ∙ e)));
}
