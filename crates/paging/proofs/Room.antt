-- Whichever page leaves, the pages held differ from each other and are no more than the frames: what a reference keeps
-- is a part of what was held, without the page referred to, and short of the frames by one.
use Rattle.common.proofs.Ground.{List, ◌∷◌, Sublistᴰ, Sublistᴰ-refl, ℕ, ◌≤◌, ◌<◌, arith, length}
use Rattle.common.proofs.Ground.{ltb, ltb-true, ltb-false}
use Rattle.common.proofs.Cases.{by_pick}
use Rattle.paging.specs.Store.{holds, leaving, after_miss, after_reference}
use Rattle.paging.proofs.Held.{Distinct, not_held_not_member, part_member, part_distinct, without-length}
use Rattle.paging.proofs.Held.{without-part, without_gone}
use Rattle.paging.proofs.Leaving.{leaving-length}

-- Pages that a store with so many frames may hold: each once, and no more than the frames.
pub record Fits (frames : ℕ) (held : List ℕ) : Type 0 where
  pub distinct : Distinct held
  pub room : length held ≤ frames

module _ (pages : ℕ) (distances : List ℕ) (threshold frames : ℕ) (held : List ℕ) where
  -- After a miss: a part of what was held, with a frame free.
  pub miss_part : Sublistᴰ (after_miss pages distances threshold frames held) held
  miss_part = by_pick (λ l. Sublistᴰ l held) (ltb (length held) frames) (λ free. Sublistᴰ-refl held)
      (λ full. without-part (leaving pages distances threshold held) held)

  miss_room : 1 ≤ frames → length held ≤ frames → length (after_miss pages distances threshold frames held) < frames
  miss_room some room = by_pick (λ l. length l < frames) (ltb (length held) frames)
      (λ free. ltb-true (length held) frames free)
      (λ full.
      let at_least_lem = ltb-false (length held) frames full in
      omega (arith, leaving-length pages distances threshold held (omega arith)))

  -- What fits still does after a reference.
  pub fits_after : (p : ℕ) → 1 ≤ frames → Fits frames held
      → Fits frames (after_reference pages distances threshold frames p held)
  unfolding after_reference
  fits_after p some fits = by_pick (λ l. Fits frames (p ∷ l)) (holds p held)
      (λ hit. record {
        distinct = (without_gone p held fits.distinct, part_distinct (without-part p held) fits.distinct);
        room = omega (arith, without-length p held hit);
      })
      (λ miss. record {
        distinct =
            (λ m. not_held_not_member p held miss (part_member miss_part m), part_distinct miss_part fits.distinct);
        room = miss_room some fits.room;
      })
