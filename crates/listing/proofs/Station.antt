-- The records of one station are kept move by move: what was kept, with the records of the moves that are left, is all
-- that is to be kept.
use Rattle.common.proofs.Ground.{◌≡◌, refl, ap, ◌∙◌, List, [], ◌++◌, map, append_assoc, append-nil, ℕ}
use Rattle.common.proofs.Ground.{◌+◌, ◌≤◌, ◌<◌, arith, add-one, length, get_or, set, take, length-set, take-suc-set}
use lib.ListN.{length-map}
use Rattle.commands.specs.declared.Move.{Move}
use Rattle.commands.specs.Commands.{length_of}
use Rattle.image.specs.Image.{directory_of, page_bytes}
use Rattle.page.specs.Reading.{reading_of, moves_in}
use Rattle.move_record.specs.declared.MoveRecord.{MoveRecord}
use Rattle.roundtrip.specs.Records.{content_in, record_for, records_at}
use Rattle.std.specs.Prelude.{Some, None}
use Rattle.by_station.specs.Next.{next_move}
use Rattle.by_station.specs.Reached.{Reached}
use Rattle.by_station.proofs.Reached.{reached_station, reached-move, reached_over}
use Rattle.listing.specs.Stations.{StationKept}

-- Of the station's moves these are left, and stand at the offset.
pub record KeepingStation (image : List ℕ) (p u first : ℕ) (before : List MoveRecord) (at k : ℕ)
    (kept : List MoveRecord) : Type 0 where
  pub moves : List Move
  pub memory : length kept ≡ length before
  pub reached : Reached image p (u + 1) at moves
  pub counted : k + length moves ≡ first + length (records_at image u)
  pub records : take k kept ++ map (record_for u) moves ≡ take first before ++ records_at image u

module _ (image : List ℕ) (p u first : ℕ) (before : List MoveRecord) where
  pub keeping_begin : (from : ℕ) → u < length (directory_of image) → get_or (directory_of image) u 0 ≡ p
      → Reached image p u from [] → KeepingStation image p u first before (from + length_of 1) first before
  unfolding records_at
  keeping_begin from h e r =
      let moves = moves_in (content_in (reading_of image p)) u in
      record {
        moves = moves;
        memory = refl;
        reached = reached_station image p h e r;
        counted = rw (e, length-map moves (record_for u));
        records = rw e;
      }

  module _ (at k : ℕ) (kept : List MoveRecord) (keeping : KeepingStation image p u first before at k kept) where
    module _ {m : Move} {behind : ℕ} (stands : next_move (page_bytes image p) at ≡ Some (m, behind))
        (memory : length before ≡ 12240) (room : first + length (records_at image u) ≤ 12240) where
      pub keeping_room : (length kept ≡ 12240) × (k < 12240)
      keeping_room =
          let (rest, next, reached) = reached-move image p at keeping.moves keeping.reached stands in
          (keeping.memory ∙ memory, omega (arith, keeping.counted, ap length next))

      pub keeping_move : KeepingStation image p u first before behind (k + 1)
          (set kept k (record_for u m))
      keeping_move =
          let (rest, next, reached) = reached-move image p at keeping.moves keeping.reached stands in
          let fits = keeping_room in
          let one = take-suc-set kept k (record_for u m) (omega arith) in
          record {
            moves = rest;
            memory = length-set kept k (record_for u m) ∙ keeping.memory;
            reached = reached;
            counted = omega (arith, keeping.counted, ap length next);
            records = rw (add-one, one, append_assoc) (rw next at keeping.records);
          }

    pub keeping_end : next_move (page_bytes image p) at ≡ None → StationKept image p u first before at k kept
    keeping_end none =
        let last = reached_over image p at keeping.moves keeping.reached none in
        record {
          memory = keeping.memory;
          reached = rw last at keeping.reached;
          counted = omega (arith, keeping.counted, ap length last);
          records = simp (last, append-nil) at keeping.records;
        }
