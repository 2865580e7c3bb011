-- Whichever pages are far, fewer frames hold at any time a part of what more frames hold. So whatever the more miss the
-- fewer miss too, and more frames never read more. It stays a part since both hold the same as long as one of the fewer
-- is free, and later the page that leaves the more is not among those of the fewer, or it leaves these too.
use mathlib.Core.List.Sublistᴰ as ListSublistᴰ
use Rattle.common.proofs.Ground.{◌≡◌, refl, ap, ◌∙◌, Bool, not, true, false, List, [], ◌∷◌, Sublistᴰ, Sublistᴰ-slnil}
use Rattle.common.proofs.Ground.{Sublistᴰ-cons_cons, ℕ, ◌≤◌, ◌<◌, arith, length, get_or, ltb, lt-ltb, ltb-true, ltb-false}
use Rattle.common.proofs.Cases.{never, by_pick}
use Rattle.common.specs.Pick.{pick}
use Rattle.net.specs.Net.{one}
use Rattle.paging.specs.Store.{holds, without, leaving, after_miss, after_reference, reads_from}
use Rattle.paging.proofs.Held.{held_member, member_held, not_held_not_member, part_member, without-length}
use Rattle.paging.proofs.Held.{without-part, without_both, without_other}
use Rattle.paging.proofs.Leaving.{leaving-length, leaving_in_part}
use Rattle.paging.proofs.Room.{Fits, miss_part, fits_after}

-- What a part holds the whole holds: it misses only where the part does.
miss_too : (p : ℕ) {small large : List ℕ} → Sublistᴰ small large
    → one (not (holds p large)) ≤ one (not (holds p small))
miss_too p {small} {large} part = by_tests (holds p large) (holds p small)
    (λ e. member_held p large (part_member part (held_member p small e)))
  where
    by_tests : (in_large in_small : Bool) → (in_small ≡ true → in_large ≡ true)
        → one (not in_large) ≤ one (not in_small)
    by_tests true in_small h = omega arith
    by_tests false true h = never (cc (h refl))
    by_tests false false h = omega arith

-- What the fewer frames hold beside what the more hold: a part of it that begins alike, and all of it as long as one of
-- the fewer is free.
record Within (frames more : ℕ) (small large : List ℕ) : Type 0 where
  part : Sublistᴰ small large
  fits : Fits more large
  first : get_or small 0 0 ≡ get_or large 0 0
  same : length small < frames → small ≡ large

module _ (pages : ℕ) (distances : List ℕ) (threshold : ℕ) where
  -- From the more frames a page leaves that the fewer do not hold, or the same leaves both.
  leaves_within : {frames more : ℕ} {small large : List ℕ} → Within frames more small large
      → Sublistᴰ (without (leaving pages distances threshold small) small)
      (without (leaving pages distances threshold large) large)
  leaves_within {small = small} {large = large} within =
      by_test (holds (leaving pages distances threshold large) small) refl
    where
      by_test : (t : Bool) → holds (leaving pages distances threshold large) small ≡ t
          → Sublistᴰ (without (leaving pages distances threshold small) small)
          (without (leaving pages distances threshold large) large)
      by_test true held =
          rw (leaving_in_part pages distances threshold within.part within.fits.distinct within.first
          (held_member (leaving pages distances threshold large) small held))
          (without_both (leaving pages distances threshold large) within.part)
      by_test false not_held = ListSublistᴰ.trans (without-part (leaving pages distances threshold small) small)
          (without_other (leaving pages distances threshold large) not_held within.part)

  module _ (frames more : ℕ) (some : 1 ≤ frames) (le : frames ≤ more) where
    -- After a miss of both: where all of the more frames hold pages, so do the fewer.
    miss_within : {small large : List ℕ} → Within frames more small large
        → Sublistᴰ (after_miss pages distances threshold frames small) (after_miss pages distances threshold more large)
    miss_within {small} {large} within = by_pick
        (λ l. Sublistᴰ (after_miss pages distances threshold frames small) l) (ltb (length large) more)
        (λ free. ListSublistᴰ.trans (miss_part pages distances threshold frames small) within.part)
        (λ full. by_pick (λ l. Sublistᴰ l (without (leaving pages distances threshold large) large))
        (ltb (length small) frames)
        (λ free.
        let less = ltb-true (length small) frames free in
        absurd (omega (arith, ap length (within.same less), ltb-false (length large) more full)))
        (λ all. leaves_within within))

    -- After any reference: a hit of the fewer is one of the more.
    part_after : (p : ℕ) {small large : List ℕ} → Within frames more small large
        → Sublistᴰ (after_reference pages distances threshold frames p small)
        (after_reference pages distances threshold more p large)
    unfolding after_reference
    part_after p {small} {large} within = Sublistᴰ-cons_cons refl (by_tests (holds p small) refl (holds p large) refl)
      where
        by_tests : (in_small : Bool) → holds p small ≡ in_small → (in_large : Bool) → holds p large ≡ in_large
            → Sublistᴰ (pick in_small (without p small) (after_miss pages distances threshold frames small))
            (pick in_large (without p large) (after_miss pages distances threshold more large))
        by_tests true hit true hit_too = without_both p within.part
        by_tests true hit false miss =
            absurd (not_held_not_member p large miss (part_member within.part (held_member p small hit)))
        by_tests false miss true hit =
            ListSublistᴰ.trans (miss_part pages distances threshold frames small) (without_other p miss within.part)
        by_tests false miss false miss_too = miss_within within

    -- As long as a frame is free, the number of frames makes no difference.
    free_alike : (p : ℕ) (held : List ℕ) → length held < frames
        → after_reference pages distances threshold frames p held ≡ after_reference pages distances threshold more p held
    unfolding after_reference
    free_alike p held free = rw (lt-ltb (length held) frames free, lt-ltb (length held) more (omega arith))

    -- A frame that is free was free before.
    free_before : (p : ℕ) (held : List ℕ) → length (after_reference pages distances threshold frames p held) < frames
        → length held < frames
    unfolding after_reference
    free_before p held = by_pick (λ l. length (p ∷ l) < frames → length held < frames) (holds p held)
        (λ hit less. omega (arith, without-length p held hit))
        (λ miss. by_pick (λ l. length (p ∷ l) < frames → length held < frames) (ltb (length held) frames)
        (λ free less. ltb-true (length held) frames free)
        (λ full less.
        let at_least_lem = ltb-false (length held) frames full in
        absurd (omega (arith, leaving-length pages distances threshold held (omega arith)))))

    -- So the fewer frames still hold a part after a reference.
    within_after : (p : ℕ) {small large : List ℕ} → Within frames more small large
        → Within frames more (after_reference pages distances threshold frames p small)
        (after_reference pages distances threshold more p large)
    unfolding after_reference
    within_after p {small} {large} within = record {
      part = part_after p within;
      fits = fits_after pages distances threshold more large p (omega arith) within.fits;
      first = refl;
      same = λ less.
          let free = free_before p small less in
          free_alike p small free ∙ ap (after_reference pages distances threshold more p) (within.same free);
    }

    -- From such pages held, and from none.
    within_reads : {small large : List ℕ} → Within frames more small large → (list : List ℕ)
        → reads_from pages distances threshold more large list ≤ reads_from pages distances threshold frames small list
    unfolding reads_from
    within_reads within [] = omega arith
    within_reads {small = small} {large = large} within (p ∷ list) =
        let later =
        within_reads {small = after_reference pages distances threshold frames p small}
        {large = after_reference pages distances threshold more p large} (within_after p within) list in
        omega (arith, miss_too p within.part, later)

    pub more_frames_read_no_more : (list : List ℕ)
        → reads_from pages distances threshold more [] list ≤ reads_from pages distances threshold frames [] list
    more_frames_read_no_more = within_reads (record {
      part = Sublistᴰ-slnil;
      fits = record { distinct = tt; room = omega arith };
      first = refl;
      same = λ less. refl;
    })
