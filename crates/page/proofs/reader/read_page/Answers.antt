-- Each arm of the match is one step of `Progress`, which both loops keep (Invariants.antt).
use Rattle.common.proofs.Ground.{◌≡◌, ap, sym, ◌∙◌, List, ℕ, ◌+◌, ◌-◌, ◌≤◌, ◌<◌, arith, length}
use Rattle.common.proofs.Cases.{never}
use Rattle.std.specs.Prelude.{Result, Ok}
use Rattle.layout.specs.Places.{first_slot}
use Rattle.layout.specs.Due.{OnPage}
use Rattle.page.specs.Reading.{verdict_of}
use Rattle.commands.specs.declared.Move.{Move}
use Rattle.commands.specs.declared.Command as declared
use Rattle.image.specs.declared.Fault as image
use Rattle.commands.specs.Commands.{Command, command_in, length_of}
use Rattle.rules.specs.Rules.{next_on, judged_at}
use Rattle.page.proofs.Reading.Steps.{found_at, IsMove, unlimited, limited}
use Rattle.page.proofs.Reading.Progress.{Progress, progress_start, move_fits, progress_move}
use Rattle.page.proofs.Reading.Progress.{station_fits, progress_station, decided, end_laid}
use Rattle.page.proofs.reader.read_page.Goals as goal

module _ {directory places page before layout : List ℕ} {p strip due at after least k : ℕ}
    (l : Progress directory places p page strip before layout due at after least k) where
  -- What was judged is what the definition finds there.
  judged_found : {past : ℕ} {result : Result declared.Command image.Fault} → past ≡ first_slot places (p + 1)
      → ((p : ℕ) → OnPage directory places p past after due
      → command_in result ≡ judged_at page at (length directory) (next_on directory p after) after least)
      → {answer : Result declared.Command image.Fault} → result ≡ answer
      → found_at directory p page at after least ≡ command_in answer
  judged_found ends is answered =
      sym (is p (record { page = l.enough.room.page; ends = ends; slot = l.due_slot })) ∙ ap command_in answered

  -- Either kind of move.
  module _ {code : ℕ} {m : Move} {x : Command} (is : IsMove m code x) (e : found_at directory p page at after least ≡ x)
    where
      lay_asks : (2048 + (after - 1) < length layout) × (k < length layout) × (k < 65536)
      lay_asks =
          let fits = move_fits l is e in
          omega (arith, fits, l.enough.room)

      ends_by : {width : ℕ} → width ≡ length_of code
          → (0 < width) × (at + width ≤ 256) × (at + width ≤ length page)
      ends_by width =
          let fits = move_fits l is e in
          omega (arith, fits.wide, fits.ends, l.enough.short, width)

pub page-init : goal.page-init
page-init c =
    progress_start c.requires.placed (omega arith) c.requires.short c.told-layout c.first_slot-due.ensures.value

pub overflow_sub-after : goal.overflow_sub-after
overflow_sub-after c =
    let l = c.loop-m.invariant.1 _ c.page.invariant in
    let found = judged_found l c.first_slot-past.ensures.value c.judged_at.ensures.value (c.in-Ok-MoveTo.is ∙ ap Ok c.in-Ok-MoveTo.field-0-is) in
    (move_fits l unlimited found).begun

pub lay_move-k-requires : goal.lay_move-k-requires
lay_move-k-requires c =
    let l = c.loop-m.invariant.1 _ c.page.invariant in
    let found = judged_found l c.first_slot-past.ensures.value c.judged_at.ensures.value (c.in-Ok-MoveTo.is ∙ ap Ok c.in-Ok-MoveTo.field-0-is) in
    let asks = lay_asks l unlimited found in
    record { station = asks.0; inside = asks.1; entry = asks.2 }

pub overflow_add-at : goal.overflow_add-at
overflow_add-at c =
    let l = c.loop-m.invariant.1 _ c.page.invariant in
    let found = judged_found l c.first_slot-past.ensures.value c.judged_at.ensures.value (c.in-Ok-MoveTo.is ∙ ap Ok c.in-Ok-MoveTo.field-0-is) in
    omega (arith, ends_by l unlimited found c.length_of-at.ensures.value)

pub loop-m-smaller-in-Ok-MoveTo : goal.loop-m-smaller-in-Ok-MoveTo
loop-m-smaller-in-Ok-MoveTo c =
    let l = c.loop-m.invariant.1 _ c.page.invariant in
    let found = judged_found l c.first_slot-past.ensures.value c.judged_at.ensures.value (c.in-Ok-MoveTo.is ∙ ap Ok c.in-Ok-MoveTo.field-0-is) in
    omega (arith, ends_by l unlimited found c.length_of-at.ensures.value)

pub loop-m-preserved-in-Ok-MoveTo : goal.loop-m-preserved-in-Ok-MoveTo
loop-m-preserved-in-Ok-MoveTo c = (
  omega (arith, c.loop-m.invariant.0),
  λ before l₀.
      let l = c.loop-m.invariant.1 before l₀ in
      let found = judged_found l c.first_slot-past.ensures.value c.judged_at.ensures.value (c.in-Ok-MoveTo.is ∙ ap Ok c.in-Ok-MoveTo.field-0-is) in
      let next = ap (λ n. c.loop-m.at + n) c.length_of-at.ensures.value in
      progress_move l unlimited found c.lay_move-k.ensures.laid next
      c.least_behind-least.ensures.value c.lay_move-k.ensures.next,
)

pub overflow_sub-after-in-Ok-Limited : goal.overflow_sub-after-in-Ok-Limited
overflow_sub-after-in-Ok-Limited c =
    let l = c.loop-m.invariant.1 _ c.page.invariant in
    let found = judged_found l c.first_slot-past.ensures.value c.judged_at.ensures.value (c.in-Ok-Limited.is ∙ ap Ok c.in-Ok-Limited.field-0-is) in
    (move_fits l limited found).begun

pub lay_limited-k-requires : goal.lay_limited-k-requires
lay_limited-k-requires c =
    let l = c.loop-m.invariant.1 _ c.page.invariant in
    let found = judged_found l c.first_slot-past.ensures.value c.judged_at.ensures.value (c.in-Ok-Limited.is ∙ ap Ok c.in-Ok-Limited.field-0-is) in
    let asks = lay_asks l limited found in
    record { station = asks.0; inside = asks.1; entry = asks.2 }

pub overflow_add-at-in-Ok-Limited : goal.overflow_add-at-in-Ok-Limited
overflow_add-at-in-Ok-Limited c =
    let l = c.loop-m.invariant.1 _ c.page.invariant in
    let found = judged_found l c.first_slot-past.ensures.value c.judged_at.ensures.value (c.in-Ok-Limited.is ∙ ap Ok c.in-Ok-Limited.field-0-is) in
    omega (arith, ends_by l limited found c.length_of-at-in-Ok-Limited.ensures.value)

pub loop-m-smaller : goal.loop-m-smaller
loop-m-smaller c =
    let l = c.loop-m.invariant.1 _ c.page.invariant in
    let found = judged_found l c.first_slot-past.ensures.value c.judged_at.ensures.value (c.in-Ok-Limited.is ∙ ap Ok c.in-Ok-Limited.field-0-is) in
    omega (arith, ends_by l limited found c.length_of-at-in-Ok-Limited.ensures.value)

pub loop-m-preserved : goal.loop-m-preserved
loop-m-preserved c = (
  omega (arith, c.loop-m.invariant.0),
  λ before l₀.
      let l = c.loop-m.invariant.1 before l₀ in
      let found = judged_found l c.first_slot-past.ensures.value c.judged_at.ensures.value (c.in-Ok-Limited.is ∙ ap Ok c.in-Ok-Limited.field-0-is) in
      let next = ap (λ n. c.loop-m.at + n) c.length_of-at-in-Ok-Limited.ensures.value in
      progress_move l limited found c.lay_limited-k.ensures.laid next
      c.least_behind-least-in-Ok-Limited.ensures.value c.lay_limited-k.ensures.next,
)

pub returns-in-Ok-End : goal.returns-in-Ok-End
returns-in-Ok-End c =
    let l = c.loop-m.invariant.1 _ c.page.invariant in
    let found = judged_found l c.first_slot-past.ensures.value c.judged_at.ensures.value (c.in-Ok-End.is ∙ ap Ok c.in-Ok-End.field-0-is) in
    let e = found in
    record { verdict = decided l e; laid = end_laid l e; others = l.others }

pub begin_row-requires : goal.begin_row-requires
begin_row-requires c =
    let l = c.loop-m.invariant.1 _ c.page.invariant in
    let found = judged_found l c.first_slot-past.ensures.value c.judged_at.ensures.value (c.in-Ok-Station.is ∙ ap Ok c.in-Ok-Station.field-0-is) in
    let here = station_fits l found in
    record {
      station = omega (arith, here.small, l.enough.room);
      entry = omega (arith, here.room, l.enough.room);
    }

pub overflow_add-after : goal.overflow_add-after
overflow_add-after c =
    let l = c.loop-m.invariant.1 _ c.page.invariant in
    let found = judged_found l c.first_slot-past.ensures.value c.judged_at.ensures.value (c.in-Ok-Station.is ∙ ap Ok c.in-Ok-Station.field-0-is) in
    omega (arith, (station_fits l found).small)

pub overflow_add-at-in-page : goal.overflow_add-at-in-page
overflow_add-at-in-page c =
    let l = c.loop-m.invariant.1 _ c.page.invariant in
    let found = judged_found l c.first_slot-past.ensures.value c.judged_at.ensures.value (c.in-Ok-Station.is ∙ ap Ok c.in-Ok-Station.field-0-is) in
    omega (
      arith,
      c.length_of-at-in-page.ensures.value,
      (station_fits l found).ends,
      l.enough.short,
    )

pub page-smaller : goal.page-smaller
page-smaller c =
    let l = c.loop-m.invariant.1 _ c.page.invariant in
    let found = judged_found l c.first_slot-past.ensures.value c.judged_at.ensures.value (c.in-Ok-Station.is ∙ ap Ok c.in-Ok-Station.field-0-is) in
    omega (
      arith,
      c.length_of-at-in-page.ensures.value,
      (station_fits l found).ends,
      c.loop-m.invariant.0,
    )

pub page-preserved : goal.page-preserved
page-preserved c =
    let l = c.loop-m.invariant.1 _ c.page.invariant in
    let found = judged_found l c.first_slot-past.ensures.value c.judged_at.ensures.value (c.in-Ok-Station.is ∙ ap Ok c.in-Ok-Station.field-0-is) in
    progress_station l found c.begin_row.ensures.begun
    (ap (λ n. c.loop-m.at + n) c.length_of-at-in-page.ensures.value)

pub returns : goal.returns
returns c =
    let l = c.loop-m.invariant.1 _ c.page.invariant in
    let found = judged_found l c.first_slot-past.ensures.value c.judged_at.ensures.value c.in-Err.is in
    let bad = decided l found in
    record {
      verdict = bad;
      laid = λ moves stations e. never (let z = bad ∙ ap verdict_of e in cc);
      others = l.others;
    }
