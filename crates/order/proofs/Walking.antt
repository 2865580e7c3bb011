-- Two walks side by side: a station that is equal in both is behind them, and the records that are left keep the order.
-- Where the station goes on unlike, or one image has no more of it, the lists part: they do not begin with the same
-- record, since a record of a later station has another from. Then the next records decide.
use Rattle.common.proofs.Ground.{◌≡◌, refl, ap, sym, ◌∙◌, Bool, true, false, List, [], ◌∷◌, ◌++◌, map, append_assoc}
use Rattle.common.proofs.Ground.{map-append, ℕ, ◌+◌, ◌-◌, ◌≤◌, ◌<◌, arith, get_or, set, eq-eqb}
use Rattle.common.proofs.Cases.{never}
use Rattle.image.specs.Image.{accepted, station_count, page_bytes}
use Rattle.commands.specs.declared.Move.{Move}
use Rattle.commands.specs.Commands.{length_of}
use Rattle.whole.specs.Check.{whole_check}
use Rattle.move_record.specs.declared.MoveRecord.{MoveRecord}
use Rattle.roundtrip.specs.Records.{record_for, records_of}
use Rattle.std.specs.Prelude.{Option, Some, None}
use Rattle.by_station.specs.Next.{next_move}
use Rattle.by_station.specs.Reached.{Reached}
use Rattle.by_station.specs.Standing.{page_at, records_behind, Stepped}
use Rattle.by_station.proofs.Reached.{next_over, next-first, reached_over}
use Rattle.by_station.proofs.Standing.{standing_at, standing_behind, standing_over, first_from}
use Rattle.ordering.specs.Order.{Order, first_less, equal, second_less, and_then, by_record, by_records}
use Rattle.ordering.proofs.Equal.{equal_record}
use Rattle.order.specs.Next.{next_order}
use Rattle.order.specs.Passing.{same_move, parted, ended, step_of, Passed, PassedStation, Walking, Part, PassedStations}
use Rattle.order.proofs.InCommon.{both_over, Common, in_common, without_common}

-- Records of one station are the same only if their moves are.
same_move_lem : (u : ℕ) (m n : Move) → record_for u m ≡ record_for u n → same_move m n ≡ true
same_move_lem u m n e =
    rw (
      eq-eqb m.target n.target (ap (λ r. r.target) e),
      eq-eqb m.time n.time (ap (λ r. r.time) e),
      eq-eqb m.limit n.limit (ap (λ r. r.limit) e),
    )

-- Records of moves, the passed ones apart.
apart : (u : ℕ) (passed left : List Move) (behind : List MoveRecord) {moves : List Move} {all : List MoveRecord}
    → all ≡ map (record_for u) moves ++ behind → moves ≡ passed ++ left
    → all ≡ map (record_for u) passed ++ (map (record_for u) left ++ behind)
apart u passed left behind is e = is ∙ rw e (simp (map-append, append_assoc))

module _ (first second : List ℕ) (whole : whole_check first ≡ accepted) (also_whole : whole_check second ≡ accepted)
    (stations : station_count first ≡ station_count second) (offsets others : List ℕ) (u : ℕ)
    (w : Walking first second offsets others u) where
  -- At a station, some of whose moves were passed.
  module _ (more : u < station_count first) (at with : ℕ)
      (k : Common first second (page_at first u) (page_at second u) (u + 1) at with w.first_stands.moves
      w.second_stands.moves) where
    abbrev p : ℕ
    p = page_at first u

    abbrev q : ℕ
    q = page_at second u

    -- What is left of both lists.
    abbrev left : List MoveRecord
    left = map (record_for u) k.left ++ records_behind first u

    abbrev also_left : List MoveRecord
    also_left = map (record_for u) k.also_left ++ records_behind second u

    same_order : by_records (records_of first) (records_of second) ≡ by_records left also_left
    same_order =
        w.same ∙
        ap (λ l. by_records l w.second_left)
        (apart u k.passed k.left (records_behind first u) w.first_stands.records k.begins) ∙
        ap (by_records (map (record_for u) k.passed ++ left))
        (apart u k.passed k.also_left (records_behind second u) w.second_stands.records k.also_begins) ∙
        without_common u k.passed left also_left

    -- Both have no more of it: the walks stand at the next station.
    next_station : step_of (next_move (page_bytes first p) at) (next_move (page_bytes second q) with) ≡ ended
        → Walking first second (set offsets p (at + length_of 1)) (set others q (with + length_of 1)) (u + 1)
    next_station e =
        let over = both_over (next_move (page_bytes first p) at) (next_move (page_bytes second q) with) e in
        let none = reached_over first p at k.left k.reached over.0 in
        let also_none = reached_over second q with k.also_left k.also_reached over.1 in
        record {
          first_left = records_behind first u;
          second_left = records_behind second u;
          first_stands =
              standing_behind first whole u offsets w.first_left w.first_stands more at (rw none at k.reached);
          second_stands =
              standing_behind second also_whole u others w.second_left w.second_stands (omega arith) with
              (rw also_none at k.also_reached);
          same = same_order ∙ rw (none, also_none);
        }

    -- They go on unlike: the lists part there.
    behind_later : {r : MoveRecord} {rest : List MoveRecord} (image : List ℕ) → records_behind image u ≡ r ∷ rest
        → u < r.from
    behind_later {r} {rest} image e =
        let from = first_from image (station_count image - (u + 1)) (u + 1) r rest e in omega arith

    parts : (moves also_moves : List Move) → Reached first p (u + 1) at moves → Reached second q (u + 1) with also_moves
        → step_of (next_move (page_bytes first p) at) (next_move (page_bytes second q) with) ≡ parted
        → Part (map (record_for u) moves ++ records_behind first u)
        (map (record_for u) also_moves ++ records_behind second u)
    parts [] [] reached also_reached e r rest also_rest is also =
        never (let over = next_over first p at reached in let also_over = next_over second q with also_reached in cc)
    parts [] (n ∷ also_moves) reached also_reached e r rest also_rest is also =
        let own : record_for u n ≡ r = cc in
        absurd (omega (arith, behind_later first is, ap (λ x. x.from) own))
    parts (m ∷ moves) [] reached also_reached e r rest also_rest is also =
        let own : record_for u m ≡ r = cc in
        absurd (omega (arith, behind_later second also, ap (λ x. x.from) own))
    parts (m ∷ moves) (n ∷ also_moves) reached also_reached e r rest also_rest is also =
        let same : record_for u m ≡ record_for u n = cc in
        let found = next-first first p at reached in
        let also_found = next-first second q with also_reached in
        let step = rw (found, also_found, same_move_lem u m n same) at e in
        never (cc)

    lists_part : step_of (next_move (page_bytes first p) at) (next_move (page_bytes second q) with) ≡ parted
        → PassedStations first second (set offsets p at) (set others q with) u
    lists_part e = record {
      walking = record {
        first_left = left;
        second_left = also_left;
        first_stands = standing_at first whole u offsets w.first_left w.first_stands more at k.reached;
        second_stands =
            standing_at second also_whole u others w.second_left w.second_stands (omega arith) with
            k.also_reached;
        same = same_order;
      };
      part = parts k.left k.also_left k.reached k.also_reached e;
    }

  -- The same by what passing the station says.
  module _ (more : u < station_count first) where
    abbrev page : List ℕ
    page = page_bytes first (page_at first u)

    abbrev other : List ℕ
    other = page_bytes second (page_at second u)

    common : (at with : ℕ)
        → Passed page other (get_or offsets (page_at first u) 0) (get_or others (page_at second u) 0) at with
        → Common first second (page_at first u) (page_at second u) (u + 1) at with w.first_stands.moves
        w.second_stands.moves
    common at with =
        in_common first second (page_at first u) (page_at second u) (u + 1) w.first_stands.moves
        w.second_stands.moves (w.first_stands.own more) (w.second_stands.own (omega arith))

    abbrev PassedHere : Bool → List ℕ → List ℕ → Type 0
    PassedHere = PassedStation page (page_at first u) other (page_at second u) offsets others

    pub station_passed : {after others_after : List ℕ} → PassedHere true after others_after
        → Walking first second after others_after (u + 1)
    station_passed s =
        rw (s.first, s.second)
        (next_station more s.at s.with (common s.at s.with s.moves.passed) s.moves.stopped)

    pub station_parted : {after others_after : List ℕ} → PassedHere false after others_after
        → PassedStations first second after others_after u
    station_parted s =
        rw (s.first, s.second)
        (lists_part more s.at s.with (common s.at s.with s.moves.passed) s.moves.stopped)

  -- All stations are passed: nothing is left of either list.
  pub all_passed : station_count first ≤ u → PassedStations first second offsets others u
  all_passed past = record {
    walking = w;
    part = λ r rest also_rest is also.
        let none = standing_over first whole u offsets w.first_left w.first_stands past in never (cc);
  }

-- Where the lists part, their order is that of the next records.
pub next_decides : (first second offsets others : List ℕ) (left also_left : List MoveRecord) (r s : Option MoveRecord)
    → Stepped first left r offsets → Stepped second also_left s others → Part left also_left
    → next_order r s ≡ by_records left also_left
unfolding by_records
next_decides first second offsets others left also_left (Some r) (Some s) found also part =
    rw (found.1, also.1) (by_order (by_record r s) refl)
  where
    by_order : (o : Order) → by_record r s ≡ o → o ≡ and_then o (by_records found.0 also.0)
    by_order first_less e = refl
    by_order equal e =
        let same = equal_record r s e in
        absurd (part r found.0 also.0 found.1 (also.1 ∙ ap (λ x. x ∷ also.0) (sym same)))
    by_order second_less e = refl
next_decides first second offsets others left also_left (Some r) None found none part = rw (found.1, none)
next_decides first second offsets others left also_left None (Some s) none also part = rw (none, also.1)
next_decides first second offsets others left also_left None None none neither part = rw (none, neither)
