-- The memory at the start of a search. The source is offered cost 0 on tables in which all entries are nobody's, so
-- that it alone has a time, and waits.
use Rattle.common.proofs.Ground.{◌≡◌, refl, ◌≢◌, dite, List, ℕ, ◌+◌, ◌≤◌, ◌<◌, arith, ℕ_discrete}
use Rattle.common.proofs.Ground.{length, get_or, replicate, length-replicate, get_or-replicate, get_or-set_other, eq-eqb}
use Rattle.common.proofs.Ground.{ne_eqb}
use Rattle.common.specs.Numbers.{nobody}
use Rattle.common.specs.Costs.{no_cost}
use Rattle.net.specs.Net.{Frame}
use Rattle.net.specs.Search.{State, going, cost_of, start, iter}
use Rattle.net.proofs.Runs.{Standing, run_standing, start-waits}
use Rattle.layout.specs.Places.{Placed}
use Rattle.image.specs.Bytes.{Bytes}
use Rattle.image.specs.Image.{directory_of, heading_check, accepted}
use Rattle.image.proofs.Heading.{formed}
use Rattle.image.proofs.Parts.{bytes_directory}
use Rattle.queue.proofs.Groups.{least_empty, empty_groups}
use Rattle.cells.specs.declared.Memory.{Memory}
use Rattle.cells.specs.Cells.{memory, Room, Relaxed, most_cost, PlacedAt}
use Rattle.cells.proofs.Relaxed.{relaxed_room, relaxed_cell, relaxed_other, relaxed_waits, relaxed_waits_other}
use Rattle.reference.specs.declared.Query.{Query}
use Rattle.work.specs.Board.{Serving, frame_of, Placing, StationIs}
use Rattle.work.specs.Hand.{Stands}
use Rattle.reference.specs.Standing.{serving, Underway}
use Rattle.work.proofs.Board.{placed_at, other_slot, relaxed_leaves}
use Rattle.map.proofs.Soundness.{image_sound}

-- Tables of nobody's cells, keys and leaves.
abbrev pub empty : Memory
empty = memory (replicate 2048 nobody) (replicate 2048 nobody) (replicate 272 nobody)

pub empty_room : {places : List ℕ} → length places ≡ 4353 → Room places empty
empty_room e = record {
  places_size = e;
  cells_size = length-replicate 2048 nobody;
  waiting_size = length-replicate 2048 nobody;
  groups = empty_groups;
}

module _ {q : Serving} {places : List ℕ} (placing : Placing q places) {m : Memory}
    (r : Relaxed places 0 q.source 0 empty m) where
  abbrev F : Frame
  F = frame_of q

  abbrev begun : State
  begun = start F q.source

  inside : q.source < length q.directory
  inside = placing.sound.source_in

  goes_on : begun.halt ≡ going
  unfolding start
  goes_on = refl

  standing : Standing F q.page q.source begun
  unfolding iter
  standing = run_standing placing.sound q.df 0

  other_time : (v : ℕ) → v < length q.directory → v ≢ q.source → cost_of F begun v ≡ no_cost
  unfolding start
  other_time v h n = rw (get_or-set_other, get_or-replicate)

  nobody_at : (i : ℕ) → i < 2048 → get_or (replicate 2048 nobody) i 0 ≡ nobody
  nobody_at i h = get_or-replicate 2048 i nobody 0 h

  room : Room places empty
  room = empty_room placing.placed.size

  small : (v : ℕ) → v < length q.directory → v < 2048
  small v h = omega (arith, placing.placed.few)

  source_station : StationIs q places begun m q.source
  source_station = rw (
    relaxed_cell r room (small _ inside),
    relaxed_waits r room (placed_at placing _ inside),
    start-waits placing.sound q.df _,
    eq-eqb q.source _ refl,
    standing.source_cost,
    nobody_at q.source (small _ inside),
    nobody_at _ (placed_at placing _ inside).slot,
  ) (
    record {
      own = λ _. (refl, standing.source_pred, omega arith);
      timed = λ n. absurd (n refl);
      untimed = λ n. absurd (n refl);
    },
    omega (arith, small _ inside),
  )

  other_station : (v : ℕ) → v < length q.directory → v ≢ q.source → StationIs q places begun m v
  other_station v h n = rw (
    relaxed_other r v n,
    relaxed_waits_other r _ (other_slot placing v q.source h inside n),
    start-waits placing.sound q.df v,
    ne_eqb v _ n,
    other_time v h n,
    nobody_at v (small v h),
  ) (
    record {
      own = λ e. absurd (n e);
      timed = λ _ l. absurd (omega arith);
      untimed = λ _ _. (refl, standing.no_pred_lem v (omega (arith, other_time v h n)), refl);
    },
    nobody_at _ (placed_at placing v h).slot,
  )

  pub begun_stands : Stands q 0 places m
  unfolding iter
  begun_stands = record {
    going = goes_on;
    board = record {
      placing = placing;
      room = relaxed_room r room;
      station = λ v h. dite (ℕ_discrete v q.source) (λ e. rw e source_station) (other_station v h);
      leaf = relaxed_leaves placing inside (length-replicate 2048 nobody) r
          (λ p l _. rw least_empty (get_or-replicate 272 p nobody 0 (omega arith)));
    };
  }

-- On an image: its net is sound, its stations are placed, and nothing of it is laid out in a table of zeros.
module _ (query : Query) (image : List ℕ) (bytes : Bytes image) (well : heading_check image ≡ accepted)
    (inside : query.source < length (directory_of image)) {places cells : List ℕ}
    (placed : Placed (directory_of image) places) (nobodys : cells ≡ empty.cells) where
  abbrev before : Memory
  before = memory cells empty.waiting empty.queue

  placing : Placing (serving query image) places
  placing =
      let f = formed image well in
      record {
        sound = image_sound query.strip image bytes well query.source inside;
        placed = placed;
        few = omega arith;
        bytes = bytes_directory image bytes;
        paged = λ v h. f.paged v (omega arith);
      }

  -- what the offer asks, and what it leaves
  pub begin_asks : (0 < 2048)
      × ((query.source < 2048) × ((0 < most_cost) × (Room places before × PlacedAt places query.source)))
  begin_asks =
      let room : Room places before = rw nobodys (empty_room placed.size) in
      (omega arith, (omega (arith, placed.few), (omega arith, (room, placed_at placing query.source inside))))

  pub begun_image : {list : List ℕ} {m : Memory} → Relaxed places 0 query.source 0 before m
      → length (directory_of image) ≤ length list
      → Underway query image 0 places (replicate 17152 0) m list
  begun_image r room = record {
    formed = well;
    known = record {
      size = length-replicate {A = ℕ} 17152 0;
      page = λ v h some.
          absurd (omega (arith, get_or-replicate {A = ℕ} 17152 (2048 + v) 0 0 (omega (arith, placed.few))));
    };
    stands = begun_stands placing (rw nobodys at r);
    room = room;
  }
