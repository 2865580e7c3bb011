-- A page that is read, and found good, is known from then on, and so are the pages that were known before.
use Rattle.common.proofs.Ground.{◌≡◌, refl, ◌≢◌, dite, List, ℕ, ℕ_discrete, length, get_or}
use Rattle.commands.specs.declared.Move.{Move}
use Rattle.image.specs.Image.{directory_of}
use Rattle.page.specs.Reading.{Verdict, Reading, Leaving, good, bad, reading_of, verdict_of}
use Rattle.page.specs.Laying.{PageLaid, OthersKept}
use Rattle.reference.specs.Standing.{PageKnown, Known, Fetched}

pub read_fetched : {image layout after : List ℕ} {strip p : ℕ} {r : Verdict} → Known strip image layout
    → length after ≡ 17152 → r ≡ verdict_of (reading_of image p)
    → ((moves : List Move) (stations : List Leaving) → reading_of image p ≡ good moves stations
    → PageLaid (directory_of image) p strip stations after)
    → OthersKept (directory_of image) p layout after → Fetched strip image p after r
read_fetched {image} {layout} {after} {strip} {p} known size e laid others = rw e (by_reading (reading_of image p) refl)
  where
    known_other : (v : ℕ) → get_or (directory_of image) v 0 ≢ p
        → PageKnown strip image (get_or (directory_of image) v 0) layout
        → PageKnown strip image (get_or (directory_of image) v 0) after
    known_other v n page = record {
      moves = page.moves;
      stations = page.stations;
      reads = page.reads;
      laid = λ u h on. others.rows u _ _ h on n (page.laid u h on);
    }

    by_reading : (r : Reading) → reading_of image p ≡ r → Fetched strip image p after (verdict_of r)
    by_reading (bad number offset) e = e
    by_reading (good moves stations) e =
        let new : PageKnown strip image p after =
        record { moves = moves; stations = stations; reads = e; laid = laid moves stations e } in (
          record {
            size = size;
            page = λ v h some. dite (ℕ_discrete (get_or (directory_of image) v 0) p) (λ on. rw on new)
                (λ n. known_other v n (known.page v h (rw (others.ends v h n) at some)));
          },
          new,
        )
