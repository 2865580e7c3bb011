use Rattle.common.proofs.Ground.{sym, ◌∙◌, subst, arith}
use Rattle.store.proofs.Chain.{back_from_end}
use Rattle.store.proofs.Leaving.{Walked, page_below, walked_none, walked_on, far_leaves, oldest_leaves}
use Rattle.store.proofs.ring.Links.leaving_page.Goals as goal

pub loop-passed-init : goal.loop-passed-init
loop-passed-init c = λ held older ring count. subst (Walked _ held _) (omega arith) (walked_none ring _)

pub is_far-requires : goal.is_far-requires
is_far-requires c = record {
  row = c.requires.full.row;
  column = page_below c.requires.full.ring _
      (c.loop-passed.invariant c.requires.full.held c.requires.full.older c.requires.full.ring c.requires.full.count) (omega arith);
}

pub returns-then-is_far : goal.returns-then-is_far
returns-then-is_far c = record {
  leaves = λ held older ring count is. far_leaves _ _ _ is (c.loop-passed.invariant held older ring count) (omega arith)
      (sym c.is_far.ensures.value ∙ c.if-is_far.true);
}

pub loop-passed-preserved : goal.loop-passed-preserved
loop-passed-preserved c = λ held older ring count.
    subst (Walked _ held _) (omega arith)
    (walked_on ring _ (c.loop-passed.invariant held older ring count) (omega arith)
    (sym c.is_far.ensures.value ∙ c.if-is_far.false))

pub returns : goal.returns
returns c = record {
  leaves = λ held older ring count is. back_from_end older c.args.self.now.newer 255 held 255 ring.chain ∙
      oldest_leaves _ _ _ is (c.loop-passed.invariant held older ring count) (omega arith)
      (omega (arith, count, c.requires.full.some));
}
