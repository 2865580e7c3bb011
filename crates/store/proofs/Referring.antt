-- A page is referred to: it comes first, whether it was held or room was made for it.
use Rattle.common.proofs.Ground.{◌≡◌, ◌≢◌, refl, ◌∙◌, true, List, [], ◌∷◌, Memᴰ, ℕ, suc, ◌+◌}
use Rattle.common.proofs.Ground.{◌≤◌, ◌<◌, min, arith, length, get_or, set, length-set, ltb, ltb-true, ltb-false, lt-ltb}
use Rattle.common.proofs.Ground.{le-ltb}
use Rattle.common.proofs.Cases.{by_pick}
use Rattle.net.proofs.Basics.Tests.{true_of}
use Rattle.paging.specs.Store.{holds, without, leaving, after_miss, after_reference}
use Rattle.paging.proofs.Held.{held_member, not_held_not_member, not_member_not_held, without-length, part_member}
use Rattle.paging.proofs.Leaving.{leaving_member, leaving-length}
use Rattle.paging.proofs.Room.{miss_part}
use Rattle.store.specs.Ring.{Ring, Holding, Store, Full, Leaves, Room, Referred}
use Rattle.store.proofs.Held.{held_entry, not_there, ring_taken, ring_freed, ring_first}

-- Every frame holds a page once there were as many reads.
pub full : {pages frames last reads : ℕ} {older newer : List ℕ} → Store pages frames last reads older newer
    → frames ≤ reads → Full pages frames last newer
full {older = older} s more = record {
  held = s.held;
  older = older;
  ring = s.holding.ring;
  count = omega (arith, s.holding.count);
  some = s.some;
  row = s.row;
}

module _ (pages : ℕ) (few : pages ≤ 240) (distances : List ℕ) (threshold frames last reads : ℕ) (older newer : List ℕ)
    (some : 0 < frames) (long : length older ≡ 256) (also : length newer ≡ 256) where
  -- Room is made: a frame is free, or a page leaves.
  pub room_free : reads < frames → Room pages distances threshold frames last reads older newer older newer
  room_free free held h =
      rw (lt-ltb (length held) frames (omega (arith, h.count))) h.ring

  -- The page that leaves is one of those held.
  leaving_held : (held : List ℕ) → 0 < length held → Memᴰ (leaving pages distances threshold held) held
  leaving_held [] none = absurd (omega arith)
  leaving_held (q ∷ held) more = leaving_member pages distances threshold q held

  module _ (taken : frames ≤ reads) {p : ℕ} (leaves : Leaves pages distances threshold frames last newer p)
      {held : List ℕ} (h : Holding pages frames last reads held older newer) where
    leaves_is : p ≡ leaving pages distances threshold held
    leaves_is = leaves held older h.ring (omega (arith, h.count)) h.last-is

    leaves_member : Memᴰ p held
    leaves_member = rw leaves_is (leaving_held held (omega (arith, h.count)))

    pub leaves_below : p < pages
    leaves_below = h.ring.below p leaves_member

    pub room_made : {older_out newer_out : List ℕ} → older_out ≡ set older (get_or newer p 0) (get_or older p 0)
        → newer_out ≡ set newer (get_or older p 0) (get_or newer p 0)
        → Ring pages (after_miss pages distances threshold frames held) older_out (set newer_out p 254)
    room_made older_is newer_is =
        rw (older_is, newer_is, le-ltb (length held) frames (omega (arith, h.count)), ← leaves_is)
        (ring_freed few (length-set older (get_or newer p 0) (get_or older p 0) ∙ long)
        (length-set newer (get_or older p 0) (get_or newer p 0) ∙ also)
        (ring_taken few long also h.ring p leaves_member) leaves_below)

  module _ (p : ℕ) (column : p < pages) where
    -- The page is held.
    pub referred_held : get_or newer p 0 ≢ 254 → {older_out newer_out older_now newer_now : List ℕ}
        → older_out ≡ set older (get_or newer p 0) (get_or older p 0)
        → newer_out ≡ set newer (get_or older p 0) (get_or newer p 0)
        → older_now ≡ set (set older_out p (get_or older_out 255 0)) 255 p
        → newer_now ≡ set (set newer_out p 255) (get_or older_out 255 0) p
        → Referred pages distances threshold frames p last reads older newer reads older_now newer_now
    unfolding after_reference
    referred_held entry older_out newer_out older_now newer_now held h =
        let hit : holds p held ≡ true =
        true_of (holds p held) (λ e. entry (h.ring.others p column (not_held_not_member p held e))) in
        let member = held_member p held hit in
        rw (hit, older_now, newer_now, older_out, newer_out) (
          record {
            ring =
                ring_first few (length-set older (get_or newer p 0) (get_or older p 0) ∙ long)
                (length-set newer (get_or older p 0) (get_or newer p 0) ∙ also)
                (ring_taken few long also h.ring p member) column;
            count = omega (arith, h.count, without-length p held hit);
            last-is = refl;
          },
          omega arith,
        )

    -- It is not, and room has been made.
    pub referred_read : get_or newer p 0 ≡ 254 → {older_made newer_made older_now newer_now : List ℕ}
        → length older_made ≡ 256 → length newer_made ≡ 256
        → Room pages distances threshold frames last reads older newer older_made newer_made
        → older_now ≡ set (set older_made p (get_or older_made 255 0)) 255 p
        → newer_now ≡ set (set newer_made p 255) (get_or older_made 255 0) p
        → Referred pages distances threshold frames p last reads older newer (reads + 1) older_now newer_now
    unfolding after_reference
    referred_read entry long_made also_made room older_now newer_now held h =
        let new : Memᴰ p held → ⊥ = λ m. held_entry few long also h.ring p m entry in
        let stay = after_miss pages distances threshold frames held in
        let left : suc (length stay) ≡ min (suc reads) frames =
        by_pick (λ l. suc (length l) ≡ min (suc reads) frames) (ltb (length held) frames)
        {x = held} {y = without (leaving pages distances threshold held) held}
        (λ free. omega (arith, ltb-true (length held) frames free, h.count))
        (λ full.
        let taken = ltb-false (length held) frames full in
        omega (arith, h.count, leaving-length pages distances threshold held (omega arith))) in
        rw (not_member_not_held p held new, older_now, newer_now) (
          record {
            ring =
                ring_first few long_made also_made
                (not_there few long_made also_made (room held h) p
                (λ m. new (part_member (miss_part pages distances threshold frames held) m)) column) column;
            count = omega (arith, left);
            last-is = refl;
          },
          refl,
        )
