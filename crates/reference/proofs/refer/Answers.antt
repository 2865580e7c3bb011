-- The least key of all names the station that the net's run refers to next (proofs/Referring.antt). Its page is listed
-- and fetched; a good one is worked on, which is the state after one reference more, and a bad one ends the search.
use Rattle.common.proofs.Ground.{◌≡◌, refl, ap, arith, rules}
use Rattle.std.proofs.lemmas.Result.{err_from_is_err_and}
use Rattle.image.specs.Image.{fault_number}
use Rattle.page.specs.Reading.{Good, Bad, verdict_in}
use Rattle.reference.proofs.Referring.{nobody_first, next_station, lists, hand_image, refused_image}
use Rattle.reference.proofs.refer.Goals as goal

pub returns-then-key-ge-NOBODY : goal.returns-then-key-ge-NOBODY
returns-then-key-ge-NOBODY c =
    let stands = c.requires.underway.stands in
    record {
      referred = (
        nobody_first stands (rw c.page_count.ensures.value at c.top-key.ensures.least) c.if-key-ge-NOBODY.true,
        stands,
        refl,
      );
    }

pub overflow_cast-page : goal.overflow_cast-page
overflow_cast-page c =
    let n = next_station c.requires.underway.stands (rw c.page_count.ensures.value at c.top-key.ensures.least)
    c.if-key-ge-NOBODY.false c.station_of-u.ensures.value c.page_at-p.ensures.value in
    omega (arith, n.below)

pub bounds-list-count : goal.bounds-list-count
bounds-list-count c =
    let n = next_station c.requires.underway.stands (rw c.page_count.ensures.value at c.top-key.ensures.least)
    c.if-key-ge-NOBODY.false c.station_of-u.ensures.value c.page_at-p.ensures.value in
    omega (arith, n.count, c.requires.underway.room)

pub fetch-requires-clause-station : goal.fetch-requires-clause-station
fetch-requires-clause-station c =
    let n = next_station c.requires.underway.stands (rw c.page_count.ensures.value at c.top-key.ensures.least)
    c.if-key-ge-NOBODY.false c.station_of-u.ensures.value c.page_at-p.ensures.value in
    n.inside

pub fetch-requires-clause-page : goal.fetch-requires-clause-page
fetch-requires-clause-page c =
    let n = next_station c.requires.underway.stands (rw c.page_count.ensures.value at c.top-key.ensures.least)
    c.if-key-ge-NOBODY.false c.station_of-u.ensures.value c.page_at-p.ensures.value in
    n.on

pub returns-in_err-map_err : goal.returns-in_err-map_err
returns-in_err-map_err c =
    let n = next_station c.requires.underway.stands (rw c.page_count.ensures.value at c.top-key.ensures.least)
    c.if-key-ge-NOBODY.false c.station_of-u.ensures.value c.page_at-p.ensures.value in
    let left = err_from_is_err_and c.from_residual.result c.from_residual.ensures.1 in
    let first = c.in_err-map_err.field-0.0 in
    let bad : verdict_in c.fetch.result ≡ Bad (fault_number first.fault) first.offset = search (rules, ap verdict_in) in
    let page : first.page ≡ c.page_at-p.result = search rules in
    record {
      referred = rw (left.1, left.2, page)
          (refused_image c.args.query c.args.image.now n (rw bad at c.fetch.ensures.fetched), lists n);
    }

pub work_page-requires-clause-in_hand : goal.work_page-requires-clause-in_hand
work_page-requires-clause-in_hand c =
    let n = next_station c.requires.underway.stands (rw c.page_count.ensures.value at c.top-key.ensures.least)
    c.if-key-ge-NOBODY.false c.station_of-u.ensures.value c.page_at-p.ensures.value in
    let good : verdict_in c.fetch.result ≡ Good = search (rules, ap verdict_in) in
    let fetched = rw good at c.fetch.ensures.fetched in
    (_, _, hand_image c.args.query c.args.image.now n fetched c.turns_of-turns.ensures.value)

pub returns : goal.returns
returns c =
    let n = next_station c.requires.underway.stands (rw c.page_count.ensures.value at c.top-key.ensures.least)
    c.if-key-ge-NOBODY.false c.station_of-u.ensures.value c.page_at-p.ensures.value in
    let good : verdict_in c.fetch.result ≡ Good = search (rules, ap verdict_in) in
    let fetched = rw good at c.fetch.ensures.fetched in
    let hand = hand_image c.args.query c.args.image.now n fetched c.turns_of-turns.ensures.value in
    record { referred = (c.work_page.ensures.worked _ _ hand, fetched.0, lists n) }
