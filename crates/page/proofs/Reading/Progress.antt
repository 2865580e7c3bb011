-- What the reader's loops keep. What is left to read from the offset `at` on decides the verdict on the page, and each
-- command read is one step of the definition's recursion. If the page is good, the stations named so far have their
-- rows: by the page's content their moves are those read and, of the latest station, those still left to read.
use Rattle.common.proofs.Ground.{◌≡◌, refl, ap, sym, ◌∙◌, subst, Bool, true, inl, ⊎_elim, dite, List, [], ◌∷◌}
use Rattle.common.proofs.Ground.{append-nil, ℕ, suc, ◌+◌, ◌-◌, ◌*◌, ◌≤◌, ◌<◌, arith, dec_lt, ℕ_discrete, length, get_or}
use Rattle.common.proofs.Ground.{eqb, leb, eq-eqb, ne_eqb}
use Rattle.common.specs.Pick.{pick}
use Rattle.common.proofs.Cases.{never}
use Rattle.layout.specs.Places.{Placed, first_slot, slot_of}
use Rattle.layout.specs.Rows.{entry_of, end_of}
use Rattle.layout.specs.Due.{Due, Next}
use Rattle.layout.proofs.Due.{due_start, due_step, next_is_due}
use Rattle.commands.specs.declared.Move.{Move}
use Rattle.page.specs.Reading.{Reading, good, bad, Leaving, with_move, with_station, moves_in}
use Rattle.commands.specs.Commands.{Command, End, Station, length_of, width_of}
use Rattle.rules.specs.Rules.{next_on}
use Rattle.page.specs.Reading.{read_from, read_page, verdict_of}
use Rattle.page.specs.Open.{is_open}
use Rattle.page.specs.Laying.{PageLaid, OthersKept}
use Rattle.commands.proofs.Lengths.{move_width}
use Rattle.rules.proofs.Judging.{judged}
use Rattle.page.proofs.Reading.Steps.{found_at, Found, IsMove, unlimited, limited, FoundMove, found-move}
use Rattle.page.proofs.Reading.Steps.{reading, read_step}
use Rattle.page.proofs.Reading.Steps.{read_move_step}
use Rattle.rules.proofs.Due.{none_before_next, next-is}
use Rattle.page.proofs.Reading.Laying.{Room, Row, written, length-written, end_own, row_begun, row_kept}
use Rattle.page.proofs.Reading.Laying.{others_kept, Passed, move_passed}

-- A command put in front of what follows it.
verdict_move : (m : Move) (r : Reading) → verdict_of (with_move m r) ≡ verdict_of r
verdict_move m (good moves stations) = refl
verdict_move m (bad number offset) = refl

good_behind_move : (m : Move) (r : Reading) {moves : List Move} {stations : List Leaving}
    → with_move m r ≡ good moves stations → (rest : List Move) × (moves ≡ m ∷ rest) × (r ≡ good rest stations)
good_behind_move m (good rest others) {moves} e = (rest, (let a : moves ≡ m ∷ rest = cc in a), cc)
good_behind_move m (bad number offset) e = never (cc)

verdict_station : (v : ℕ) (r : Reading) → verdict_of (with_station v r) ≡ verdict_of r
verdict_station v (good moves stations) = refl
verdict_station v (bad number offset) = refl

good_behind_station : (v : ℕ) (r : Reading) {moves : List Move} {stations : List Leaving}
    → with_station v r ≡ good moves stations → (own : List Move) × (others : List Leaving) × (moves ≡ [])
    × (stations ≡ record { station = v; moves = own } ∷ others) × (r ≡ good own others)
good_behind_station v (good own others) e = (own, others, cc, cc, refl)
good_behind_station v (bad number offset) e = never (cc)

-- The rows so far of a good page whose content is `all`.
pub record Rows (directory : List ℕ) (p : ℕ) (page : List ℕ) (strip : ℕ) (all : List Leaving) (layout : List ℕ)
    (turns at after least k : ℕ) : Type 0 where
  pub rest : List Move
  pub following : List Leaving
  pub left : read_from directory p page turns at after least ≡ good rest following
  pub latest : (v : ℕ) → after ≡ v + 1 → (end_of layout v ≡ k) × Row strip layout p v k (moves_in all v) rest
  pub earlier : (u : ℕ) → u + 1 < after → u < length directory → get_or directory u 0 ≡ p
      → Row strip layout p u k (moves_in all u) []
  pub later : (u : ℕ) → after ≤ u → moves_in all u ≡ moves_in following u

-- Turns enough to read what is left of a page, and room enough to lay it out: a move takes five bytes or more.
pub record Enough (page layout : List ℕ) (p turns at k : ℕ) : Type 0 where
  pub short : length page ≤ 256
  pub turns_left : length page < at + turns
  pub within : at ≤ length page
  pub room : Room layout p k
  pub few_moves : length_of 2 * k ≤ at + length_of 2 * (4096 + 51 * p)

pub record Progress (directory places : List ℕ) (p : ℕ) (page : List ℕ) (strip : ℕ) (before layout : List ℕ)
    (due at after least k : ℕ) : Type 0 where
  pub placed : Placed directory places
  pub turns : ℕ
  pub enough : Enough page layout p turns at k
  pub due_slot : Due directory places p after due
  pub latest : (v : ℕ) → after ≡ v + 1 → (v < length directory) × (get_or directory v 0 ≡ p)
  pub decides : verdict_of (read_from directory p page turns at after least) ≡ verdict_of (read_page directory p page)
  pub others : OthersKept directory p before layout
  pub rows : (moves : List Move) (all : List Leaving) → read_page directory p page ≡ good moves all
      → Rows directory p page strip all layout turns at after least k

pub progress_start : {directory places page layout : List ℕ} {p strip due : ℕ} → Placed directory places → p < 256
    → length page ≤ 256 → length layout ≡ 17152 → due ≡ first_slot places p
    → Progress directory places p page strip layout layout due 0 0 0 (4096 + 51 * p)
unfolding read_page
progress_start {directory} {places} {page} {layout} {p} placed page_fits short size first = record {
  placed = placed;
  turns = suc (length page);
  enough = omega arith;
  due_slot = rw first (due_start directory places placed p page_fits);
  latest = λ v e. absurd (omega arith);
  decides = refl;
  others = record { rows = λ u q row h on other l. l; ends = λ u h off. refl };
  rows = λ moves all e. record {
    rest = moves;
    following = all;
    left = e;
    latest = λ v q. absurd (omega arith);
    earlier = λ u q. absurd (omega arith);
    later = λ u q. refl;
  };
}

-- A move that passes has a station, and there is room for it.
pub record MoveFits (directory : List ℕ) (p : ℕ) (page : List ℕ) (at after k code : ℕ) : Type 0 where
  pub begun : 1 ≤ after
  pub station : after - 1 < length directory
  pub small : after - 1 < 2048
  pub on_page_lem : get_or directory (after - 1) 0 ≡ p
  pub known : code < 4
  pub wide : length_of 2 ≤ length_of code
  pub ends : at + length_of code ≤ length page
  pub room : k < 4096 + 51 * p + 51

-- A station that passes is the one whose slot is due, and there is room for its row.
pub record StationFits (directory places : List ℕ) (p : ℕ) (page : List ℕ) (due at after k v : ℕ) : Type 0 where
  pub next : Next directory p after v
  pub small : v < 2048
  pub slot : slot_of places v ≡ due
  pub ends : at + length_of 1 ≤ length page
  pub room : k ≤ 4096 + 51 * p + 51

module _ {directory places page before layout : List ℕ} {p strip due at after least k : ℕ}
    (l : Progress directory places p page strip before layout due at after least k) where
  abbrev here : Command
  here = found_at directory p page at after least

  keeps : {x : Command} → here ≡ x → Found directory p page at after least x
  keeps e = judged page at (length directory) (next_on directory p after) after least e

  -- what is read behind that command; what is left, by its first command; and the verdict by that
  abbrev behind : ℕ → ℕ → ℕ → Reading
  behind = read_from directory p page (l.turns - 1)

  left_is : {x : Command} → here ≡ x
      → read_from directory p page l.turns at after least
      ≡ reading directory p page (l.turns - 1) at after least x
  left_is e = read_step directory p page l.turns at after least (omega arith) e

  pub decided : {x : Command} → here ≡ x
      → verdict_of (reading directory p page (l.turns - 1) at after least x) ≡ verdict_of (read_page directory p page)
  decided e = ap verdict_of (sym (left_is e)) ∙ l.decides

  -- the rows of a good page, where no moves of the latest station are left
  closed : (all : List Leaving) (w : Rows directory p page strip all layout l.turns at after least k) → w.rest ≡ []
      → (u : ℕ) → u < after → u < length directory → get_or directory u 0 ≡ p → Row strip layout p u k (moves_in all u) []
  closed all w none u h station on =
      dite (ℕ_discrete after (u + 1))
      (λ e. subst (Row strip layout p u k (moves_in all u)) none (w.latest u e).1)
      (λ n. w.earlier u (omega arith) station on)

  pub move_fits : {code : ℕ} {m : Move} {x : Command} → IsMove m code x → here ≡ x
      → MoveFits directory p page at after k code
  move_fits is e =
      let j = found-move directory p page is (keeps e) in
      let on = l.latest (after - 1) (omega (arith, j.1.begun)) in
      let width = move_width j.0.move in
      record {
        begun = omega (arith, j.1.begun);
        station = on.0;
        small = omega (arith, l.placed.few);
        on_page_lem = on.1;
        known = ⊎_elim (λ is. omega arith) (λ is. omega arith) j.0.move;
        wide = width.0;
        ends = j.0.ends;
        room = omega (arith, l.enough, j.0.ends);
      }

  module _ {code : ℕ} {m : Move} {x : Command} (is : IsMove m code x) (e : here ≡ x) where
    -- what is left behind the move
    left_behind : read_from directory p page l.turns at after least
        ≡ with_move m (behind (at + length_of code) after (m.target + 1))
    left_behind = left_is e ∙ read_move_step directory p page is (l.turns - 1) at after least

    abbrev behind_move : ℕ
    behind_move = pick (is_open strip m) (k + 1) k

    abbrev moved : List ℕ
    moved = written layout k (entry_of m.time m.target) (after - 1) behind_move

    -- whether the move is open: a `02` is, and of a `03` the limit tells
    abbrev opens : Bool
    opens = pick (eqb code 2) true (leb strip m.limit)

    open_by : opens ≡ is_open strip m
    open_by = by_code is (found-move directory p page is (keeps e))
      where
        by_code : {code : ℕ} {x : Command} → IsMove m code x → FoundMove directory p page at after least code m
            → pick (eqb code 2) true (leb strip m.limit) ≡ is_open strip m
        by_code unlimited j = rw (eq-eqb m.limit 0 (j.0.unlimited refl))
        by_code limited j = rw (ne_eqb m.limit 0 (j.1.limited refl))

    passed : Passed strip directory p (after - 1) m layout k moved behind_move
    passed =
        let fits = move_fits is e in
        move_passed strip m l.placed.few l.enough.room fits.room fits.station fits.on_page_lem

    rows_move : (all : List Leaving) → Rows directory p page strip all layout l.turns at after least k
        → Rows directory p page strip all moved (l.turns - 1) (at + length_of code) after (m.target + 1)
        behind_move
    rows_move all w =
        let rest = good_behind_move m (behind _ _ _) (sym left_behind ∙ w.left) in
        let begun = (move_fits is e).begun in
        let own = w.latest (after - 1) (omega arith) in
        record {
          rest = rest.0;
          following = w.following;
          left = rest.2;
          latest = λ v q.
              let same : v ≡ after - 1 = omega arith in
              rw same (passed.own own.0
              (subst (Row strip layout p (after - 1) k (moves_in all (after - 1))) rest.1 own.1));
          earlier = λ u q h on.
              passed.rows (omega (arith, l.placed.few)) (omega arith) (w.earlier u q h on);
          later = w.later;
        }

    pub progress_move : {after_writes : List ℕ} {next least' k' : ℕ}
        → after_writes ≡ written layout k (entry_of m.time m.target) (after - 1) (pick opens (k + 1) k)
        → next ≡ at + length_of code → least' ≡ m.target + 1 → k' ≡ pick opens (k + 1) k
        → Progress directory places p page strip before after_writes due next after least' k'
    progress_move laid past risen counted =
        let fits = move_fits is e in
        rw (laid, past, risen, counted, open_by) (record {
          placed = l.placed;
          turns = l.turns - 1;
          enough = omega (arith, l.enough, passed.size, passed.onward, passed.at_most, fits.wide, fits.ends);
          due_slot = l.due_slot;
          latest = l.latest;
          decides = sym (verdict_move m (behind _ _ _)) ∙ ap verdict_of (sym left_behind) ∙ l.decides;
          others = passed.others l.others;
          rows = λ moves all g. rows_move all (l.rows moves all g);
        })

  pub station_fits : {v : ℕ} → here ≡ Station v → StationFits directory places p page due at after k v
  station_fits {v} e =
      let j = keeps e in
      let next : Next directory p after v = rw j.1.next (next-is directory p after (omega arith)) in
      record {
        next = next;
        small = omega (arith, l.placed.few);
        slot = next_is_due directory places l.placed p l.enough.room.page after due l.due_slot v next;
        ends = j.0.0;
        room = omega (arith, l.enough);
      }

  module _ {v : ℕ} (e : here ≡ Station v) where
    abbrev begun : List ℕ
    begun = written layout v k v k

    rows_station : (all : List Leaving) → Rows directory p page strip all layout l.turns at after least k
        → Rows directory p page strip all begun (l.turns - 1) (at + width_of (Station v)) (v + 1) 0 k
    unfolding moves_in
    rows_station all w =
        let fits = station_fits e in
        let room = l.enough.room in
        let next = fits.next in
        let rest = good_behind_station v (behind _ _ _) (sym (left_is e) ∙ w.left) in
        let own = rest.0 in
        let of : (u : ℕ) → after ≤ u → moves_in all u ≡ moves_in (record { station = v; moves = own } ∷ rest.1) u =
        λ u q. w.later u q ∙ ap (λ stations. moves_in stations u) rest.3 in
        let own_is : moves_in all v ≡ own = of v next.from ∙ simp (eq-eqb v v refl) in
        record {
          rest = own;
          following = rest.1;
          left = rest.4;
          latest = λ u q.
              let same : u ≡ v = omega arith in
              rw (same, own_is) (
                end_own layout v k v k fits.small room.size,
                row_begun strip room v fits.small own fits.room,
              );
          earlier = λ u q h on.
              let named : u < after = dite (dec_lt u after) (λ k. k)
              (λ n. absurd (next.first u (omega arith) (omega arith) on)) in
              row_kept strip room v fits.small v k k (inl refl) (omega arith) (omega (arith, l.placed.few))
              (omega arith) (closed all w rest.2 u named h on);
          later = λ u q.
              let other : v ≡ u → ⊥ = omega arith in
              of u (omega (arith, next.from)) ∙ simp (ne_eqb v u other);
        }

    pub progress_station : {after_writes : List ℕ} {next : ℕ} → after_writes ≡ begun → next ≡ at + length_of 1
        → Progress directory places p page strip before after_writes (due + 1) next (v + 1) 0 k
    progress_station laid passed =
        let fits = station_fits e in
        let next = fits.next in
        rw (laid, passed) (record {
          placed = l.placed;
          turns = l.turns - 1;
          enough = omega (arith, l.enough, length-written layout v k v k);
          due_slot = due_step directory places l.placed p l.enough.room.page v due next.station next.on
              fits.slot;
          latest = λ u q. let same : u ≡ v = omega arith in rw same (next.station, next.on);
          decides = sym (verdict_station v (behind _ _ _)) ∙ decided e;
          others = others_kept l.placed.few l.others v k v k next.station next.on (inl refl);
          rows = λ moves all g. rows_station all (l.rows moves all g);
        })

  pub end_laid : here ≡ End → (moves : List Move) (all : List Leaving) → read_page directory p page ≡ good moves all
      → PageLaid directory p strip all layout
  end_laid e moves all g u h on =
      let w = l.rows moves all g in
      let ended = sym (left_is e) ∙ w.left in
      let none : w.rest ≡ [] = sym (cc) in
      let j = keeps e in
      let named : u < after = dite (dec_lt u after) (λ k. k)
      (λ n. absurd (none_before_next directory p after u (omega arith) (omega arith) on)) in
      let r = closed all w none u named h on in
      rw (r.split, append-nil r.read) r.laid
