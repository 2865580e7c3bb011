use Rattle.common.proofs.Ground.{◌≡◌, ap, sym, ◌∙◌, List, ℕ, arith, length}
use Rattle.std.specs.Prelude.{Some, None}
use Rattle.image.specs.Image.{page_bytes}
use Rattle.by_station.specs.Next.{next_move}
use Rattle.by_station.proofs.Reached.{reached-inside, found_behind}
use Rattle.listing.proofs.Station.{keeping_begin, keeping_room, keeping_move, keeping_end}
use Rattle.listing.proofs.keep_station.Goals as goal

pub overflow_add-at : goal.overflow_add-at
overflow_add-at c =
    let here = reached-inside _ _ _ _ c.requires.reached in
    omega (arith, c.length_of.ensures.value, ap length c.page_of-page.ensures.part, c.page_of-page.ensures.short)

pub loop-m-init : goal.loop-m-init
loop-m-init c =
    rw c.length_of.ensures.value
    (keeping_begin _ _ _ _ _ c.args.from c.requires.named c.requires.own c.requires.reached)

pub bounds-kept-count : goal.bounds-kept-count
bounds-kept-count c =
    let page : List ℕ = page_bytes c.args.image.now c.args.p in
    let stands : next_move page c.loop-m.at ≡ Some (c.in-Some.m, c.in-Some.behind) =
    rw (← c.page_of-page.ensures.part) (sym c.next_move.ensures.value ∙ c.in-Some.is) in
    let room = keeping_room _ _ _ _ _ _ _ _ c.loop-m.invariant stands c.requires.memory c.requires.room in
    omega arith

pub loop-m-smaller : goal.loop-m-smaller
loop-m-smaller c =
    let page : List ℕ = page_bytes c.args.image.now c.args.p in
    let stands : next_move page c.loop-m.at ≡ Some (c.in-Some.m, c.in-Some.behind) =
    rw (← c.page_of-page.ensures.part) (sym c.next_move.ensures.value ∙ c.in-Some.is) in
    let on = found_behind _ _ stands in
    omega (arith, ap length c.page_of-page.ensures.part)

pub loop-m-preserved : goal.loop-m-preserved
loop-m-preserved c =
    let page : List ℕ = page_bytes c.args.image.now c.args.p in
    let stands : next_move page c.loop-m.at ≡ Some (c.in-Some.m, c.in-Some.behind) =
    rw (← c.page_of-page.ensures.part) (sym c.next_move.ensures.value ∙ c.in-Some.is) in
    rw c.record_for.ensures.value
    (keeping_move _ _ _ _ _ _ _ _ c.loop-m.invariant stands c.requires.memory c.requires.room)

pub returns : goal.returns
returns c =
    let page : List ℕ = page_bytes c.args.image.now c.args.p in
    let none : next_move page c.loop-m.at ≡ None =
    rw (← c.page_of-page.ensures.part) (sym c.next_move.ensures.value ∙ c.in_default.is) in
    record {
      station = keeping_end _ _ _ _ _ _ _ _ c.loop-m.invariant none;
    }
