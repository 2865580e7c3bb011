-- The store's replay (02, C-20) on small lists, computed: first a belief from the course about stores (docs/course.md),
-- then for each part of the request a list that tells its reading from another one, with the reads by both. They need
-- the definitions alone, so that a wrong definition is refused by its numbers before any law.
use Rattle.common.proofs.Ground.{◌≡◌, refl, List, [], ◌∷◌, ◌++◌, Sublistᴰ, Sublistᴰ-slnil, Sublistᴰ-cons}
use Rattle.common.proofs.Ground.{Sublistᴰ-cons_cons, ℕ, replicate}
use Rattle.image.specs.Image.{first_not_below}
use Rattle.paging.specs.Store.{holds, without, least_recent, leaving, after_reference, reads_from, lru_reads_from}
use Rattle.paging.specs.Store.{Replay, reads, refused, replay}

-- Three pages, every distance 0: none is ever far, and the least recently used leaves.
abbrev replay_plain : ℕ → List ℕ → Replay
replay_plain frames list = replay list 3 frames (replicate 9 0) 0

-- "A part of a list reads less in any store": with one frame 0 1 0 2 0 takes 5 reads and its part 0 1 2 0 takes 4, but
-- with two frames the whole takes 3 and the part 4. By the replay, and by plain least recently used.
pub part_may_read_more :
    Sublistᴰ {A = ℕ} (0 ∷ 1 ∷ 2 ∷ 0 ∷ []) (0 ∷ 1 ∷ 0 ∷ 2 ∷ 0 ∷ [])
    × (replay_plain 1 (0 ∷ 1 ∷ 0 ∷ 2 ∷ 0 ∷ []) ≡ reads 5) × (replay_plain 1 (0 ∷ 1 ∷ 2 ∷ 0 ∷ []) ≡ reads 4)
    × (replay_plain 2 (0 ∷ 1 ∷ 0 ∷ 2 ∷ 0 ∷ []) ≡ reads 3) × (replay_plain 2 (0 ∷ 1 ∷ 2 ∷ 0 ∷ []) ≡ reads 4)
    × (lru_reads_from 1 [] (0 ∷ 1 ∷ 0 ∷ 2 ∷ 0 ∷ []) ≡ 5) × (lru_reads_from 1 [] (0 ∷ 1 ∷ 2 ∷ 0 ∷ []) ≡ 4)
    × (lru_reads_from 2 [] (0 ∷ 1 ∷ 0 ∷ 2 ∷ 0 ∷ []) ≡ 3) × (lru_reads_from 2 [] (0 ∷ 1 ∷ 2 ∷ 0 ∷ []) ≡ 4)
unfolding holds without least_recent leaving after_reference reads_from lru_reads_from first_not_below replay
part_may_read_more = (
  Sublistᴰ-cons_cons refl (Sublistᴰ-cons_cons refl
      (Sublistᴰ-cons (Sublistᴰ-cons_cons refl (Sublistᴰ-cons_cons refl Sublistᴰ-slnil)))),
  refl,
  refl,
  refl,
  refl,
  refl,
  refl,
  refl,
  refl,
)

-- "only when all frames hold pages does one leave": three pages in three frames, page 0 far from page 1. Each page is
-- read once, 3 reads. By figure 3.1 of document 000, page 0 leaves though a frame is free, and is read again: 4.
pub none_leaves_while_a_frame_is_free :
    replay (0 ∷ 1 ∷ 2 ∷ 0 ∷ []) 3 3 (0 ∷ 0 ∷ 0 ∷ 1 ∷ 0 ∷ 0 ∷ 0 ∷ 0 ∷ 0 ∷ []) 0 ≡ reads 3
unfolding holds without least_recent leaving after_reference reads_from first_not_below replay
none_leaves_while_a_frame_is_free = refl

-- "from the page last referred to before the miss": page 2 is missed with 0 and 1 in two frames, and only page 1 is far
-- from it. But the distances from page 1 count, and none is far: 0 leaves and is read again, 4 reads. By figure 3.1,
-- which measures from the page that misses, 1 leaves: 3.
pub measured_from_the_page_before_the_miss :
    replay (0 ∷ 1 ∷ 2 ∷ 0 ∷ []) 3 2 (0 ∷ 0 ∷ 0 ∷ 0 ∷ 0 ∷ 0 ∷ 0 ∷ 1 ∷ 0 ∷ []) 0 ≡ reads 4
unfolding holds without least_recent leaving after_reference reads_from first_not_below replay
measured_from_the_page_before_the_miss = refl

-- "or of all if none is": of 0 and 1 in two frames page 0 leaves and is read again, 4 reads, and page 1 stays, 3. If
-- page 1 left, these would be 3 and 4; if none left, or 2 was not kept, 3 and 3; if both left, 4 and 4.
pub least_recently_used_of_all_if_none_is_far :
    (replay_plain 2 (0 ∷ 1 ∷ 2 ∷ 0 ∷ []) ≡ reads 4) × (replay_plain 2 (0 ∷ 1 ∷ 2 ∷ 1 ∷ []) ≡ reads 3)
unfolding holds without least_recent leaving after_reference reads_from first_not_below replay
least_recently_used_of_all_if_none_is_far = (refl, refl)

-- A page that the table has far from itself can be the one to leave: so page 1 does when 2 is missed, and 0 is still
-- held, 3 reads. If no page were far from itself, 0 would leave: 4.
pub far_from_itself : replay (0 ∷ 1 ∷ 2 ∷ 0 ∷ []) 3 2 (0 ∷ 0 ∷ 0 ∷ 0 ∷ 1 ∷ 0 ∷ 0 ∷ 0 ∷ 0 ∷ []) 0 ≡ reads 3
unfolding holds without least_recent leaving after_reference reads_from first_not_below replay
far_from_itself = refl

-- Four pages in three frames: 0, 1 and 2 are held, used in this order, when 3 is missed, so that 2 is the page last
-- referred to. The distances from it are given, all others are 0. One of the three leaves: if the next reference is to
-- that one there are 5 reads, otherwise 4. (Of two frames one holds the page last referred to and the other the least
-- recently used, so that with two only a page that is far from itself makes a difference.)
abbrev replay_then : ℕ → List ℕ → ℕ → Replay
replay_then next from_two threshold =
    replay (0 ∷ 1 ∷ 2 ∷ 3 ∷ next ∷ []) 4 3 (replicate 8 0 ++ from_two ++ replicate 4 0) threshold

-- "row: page last referred to": page 1 is far from 2, and 2 is not far from 1. So 1 leaves and 0 stays: 4 reads. By
-- column none is far, and 0 leaves: 5.
pub distances_by_row : replay_then 0 (0 ∷ 1 ∷ 0 ∷ 0 ∷ []) 0 ≡ reads 4
unfolding holds without least_recent leaving after_reference reads_from first_not_below replay
distances_by_row = refl

-- "the least recently used of those farther than D": 0 and 1 are both far, and 0 leaves, though 1 is farther. So 1
-- stays: 4 reads. If the farthest left, or the most recently used of the far: 5.
pub least_recently_used_of_the_far : replay_then 1 (1 ∷ 2 ∷ 0 ∷ 0 ∷ []) 0 ≡ reads 4
unfolding holds without least_recent leaving after_reference reads_from first_not_below replay
least_recently_used_of_the_far = refl

-- "farther than D": with the same distances and D 1 only page 1 is far, and 0 stays: 4 reads. If a distance of D were
-- far, 0 would leave: 5.
pub far_is_above_the_threshold : replay_then 0 (1 ∷ 2 ∷ 0 ∷ 0 ∷ []) 1 ≡ reads 4
unfolding holds without least_recent leaving after_reference reads_from first_not_below replay
far_is_above_the_threshold = refl

-- Document 000 remarks that with D 0 it is plain least recently used. Not of every table: where only page 1 is far from
-- 2 there are 4 reads, and by plain least recently used there are 5.
pub threshold_zero_is_not_plain :
    (replay_then 0 (0 ∷ 1 ∷ 0 ∷ 0 ∷ []) 0 ≡ reads 4) × (lru_reads_from 3 [] (0 ∷ 1 ∷ 2 ∷ 3 ∷ 0 ∷ []) ≡ 5)
unfolding holds without least_recent leaving after_reference reads_from lru_reads_from first_not_below replay
threshold_zero_is_not_plain = (refl, refl)

-- "It refuses by 3, then with 23": a P of 0 or over 240, where all that 23 is about is wrong too. With a P of 1 or 240
-- it comes to 23.
pub refuses_by_3_first :
    (replay (0 ∷ []) 0 0 (0 ∷ []) 0 ≡ refused 3) × (replay (241 ∷ []) 241 65 [] 0 ≡ refused 3)
    × (replay (1 ∷ []) 1 0 [] 0 ≡ refused 23) × (replay (240 ∷ []) 240 65 [] 0 ≡ refused 23)
unfolding first_not_below replay
refuses_by_3_first = (refl, refl, refl, refl)

-- "an F of 0 or over 64, a list entry not below P or a distance table not P·P long": two pages in one frame take 2
-- reads, in 64 too, and an empty list none. One thing wrong at a time: F 0 and 65, an entry of 2 behind good ones, and
-- tables of 2, 3 and 5 distances.
pub refuses_with_23 :
    (replay (0 ∷ 1 ∷ []) 2 1 (replicate 4 0) 0 ≡ reads 2) × (replay (0 ∷ 1 ∷ []) 2 64 (replicate 4 0) 0 ≡ reads 2)
    × (replay [] 2 1 (replicate 4 0) 0 ≡ reads 0)
    × (replay (0 ∷ 1 ∷ []) 2 0 (replicate 4 0) 0 ≡ refused 23)
    × (replay (0 ∷ 1 ∷ []) 2 65 (replicate 4 0) 0 ≡ refused 23)
    × (replay (0 ∷ 1 ∷ 2 ∷ []) 2 1 (replicate 4 0) 0 ≡ refused 23)
    × (replay (0 ∷ 1 ∷ []) 2 1 (replicate 2 0) 0 ≡ refused 23)
    × (replay (0 ∷ 1 ∷ []) 2 1 (replicate 3 0) 0 ≡ refused 23)
    × (replay (0 ∷ 1 ∷ []) 2 1 (replicate 5 0) 0 ≡ refused 23)
unfolding holds without least_recent leaving after_reference reads_from first_not_below replay
refuses_with_23 = (refl, refl, refl, refl, refl, refl, refl, refl, refl)
