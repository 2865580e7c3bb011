use Rattle.common.proofs.Ground.{◌≡◌, sym, ◌∙◌, ap, length, leb, rules, tests}
use Rattle.std.specs.Prelude.{unwrap_or}
use Rattle.std.specs.List.{position}
use Rattle.std.proofs.lemmas.Iterator.{YieldsList-from_slice}
use Rattle.std.proofs.lemmas.Iterator.Search.{position_from_yields_List}
use Rattle.image.proofs.Scans.{first_by_position, all-below}
use Rattle.image.proofs.first_not_below.Goals as goal

pub returns-then-greatest-limit : goal.returns-then-greatest-limit
returns-then-greatest-limit c = record {
  value = sym (all-below _ _ _ c.if-greatest-limit.true c.greatest.ensures.most);
}

pub returns : goal.returns
returns c =
    let d = c.args.directory.now in
    let found : c.position.result ≡ position (leb c.args.limit) d =
    position_from_yields_List (leb c.args.limit) _ _ c.position.result c.position.ensures.ran
    (YieldsList-from_slice _ c.iter.ensures.rest) (λ x b q k. search (rules, tests)) in
    record {
      value = c.unwrap_or.ensures ∙ ap (λ place. unwrap_or place (length d)) found ∙ first_by_position c.args.limit d;
    }
