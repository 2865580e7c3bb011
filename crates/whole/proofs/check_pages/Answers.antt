-- Each page by its verdict: a bad one is the outcome, and a good one hands on to the pages behind it.
use Rattle.common.proofs.Ground.{◌≡◌, ap, sym, ◌∙◌, arith, length}
use Rattle.image.proofs.Parts.{directory_most}
use Rattle.image.specs.Image.{fault_number}
use Rattle.page.specs.Reading.{Good, Bad, verdict_in}
use Rattle.whole.proofs.Pages.{pages_step, pages_end}
use Rattle.common.proofs.Ground.{rules}
use Rattle.std.proofs.lemmas.Result.{err_from_is_err_and}
use Rattle.whole.proofs.check_pages.Goals as goal

pub place-requires-clause-stations : goal.place-requires-clause-stations
place-requires-clause-stations c =
    omega (arith, ap length c.directory_of.ensures.part, directory_most c.args.image.now, c.requires.0)

pub returns-in_err-map_err : goal.returns-in_err-map_err
returns-in_err-map_err c =
    let left = err_from_is_err_and c.from_residual.result c.from_residual.ensures.1 in
    let bad : verdict_in c.read_page_of.result ≡ Bad (fault_number c.in_err-map_err.field-0.0.fault) c.in_err-map_err.field-0.0.offset = search (rules, ap verdict_in) in
    let page : c.in_err-map_err.field-0.0.page ≡ c.loop-page.page-counter = search rules in
    record {
      outcome = rw (left.1, left.2, page)
          (sym (pages_step _ _ _ c.loop-page-test.true (sym c.read_page_of.ensures.verdict ∙ bad)) ∙ c.loop-page.invariant.0);
    }

pub loop-page-preserved : goal.loop-page-preserved
loop-page-preserved c =
    let good : verdict_in c.read_page_of.result ≡ Good = search (rules, ap verdict_in) in
    (sym (pages_step _ _ _ c.loop-page-test.true (sym c.read_page_of.ensures.verdict ∙ good)) ∙ c.loop-page.invariant.0, search rules)

pub returns : goal.returns
returns c = record {
  outcome = pages_end _ _ _ c.loop-page-test.false ∙ c.loop-page.invariant.0;
}
