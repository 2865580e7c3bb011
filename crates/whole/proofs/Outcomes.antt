-- What the whole check can say: 1 to 5, or a page's refusal. So the offset that it names, if it names one, is 256 at
-- most, as that of a page's fault is; and 13 "no longer occurs" (C-15).
use Rattle.common.proofs.Ground.{◌≡◌, List, ℕ, zero, suc, ◌≤◌, arith}
use Rattle.common.proofs.Cases.{never}
use Rattle.image.specs.Image.{Place, Outcome, accepted, refused, nowhere, at_station, on_page, heading_check}
use Rattle.image.specs.Image.{after_heading, page_count}
use Rattle.page.specs.Reading.{Reading, good, bad, reading_of}
use Rattle.whole.specs.Check.{page_outcome, pages_from, whole_check}
use Rattle.image.proofs.Heading.{heading_says}
use Rattle.commands.proofs.Lengths.{PageNumber}
use Rattle.page.proofs.Offsets.{FaultBy, reading_by_256}

module _ (Says : Outcome → Type 0)
    (heading : (number : ℕ) → number ≤ 4 → Says (refused number nowhere))
    (directory : (station : ℕ) → Says (refused 5 (at_station station)))
    (fault : (number p offset : ℕ) → PageNumber number → offset ≤ 256 → Says (refused number (on_page p offset)))
    (whole : Says accepted) (image : List ℕ) where
  page_says : (p : ℕ) (r : Reading) (following : Outcome) → FaultBy 256 r → Says following
      → Says (page_outcome p r following)
  page_says p (good moves stations) following k says = says
  page_says p (bad number offset) following k says = fault number p offset k.0 k.1

  pages_say : (count p : ℕ) → Says (pages_from image count p)
  unfolding pages_from
  pages_say zero p = whole
  pages_say (suc count) p =
      page_says p (reading_of image p) (pages_from image count (suc p)) (reading_by_256 image p) (pages_say count (suc p))

  behind_heading : (o following : Outcome) → Says o → Says following → Says (after_heading o following)
  behind_heading accepted following says behind = behind
  behind_heading (refused number place) following says behind = says

  whole_says : Says (whole_check image)
  unfolding whole_check
  whole_says =
      behind_heading (heading_check image) (pages_from image (page_count image) 0)
      (heading_says Says heading directory whole image) (pages_say (page_count image) 0)

-- An outcome whose offset, if it names one, is 256 at most.
abbrev pub PlaceBy256 : Outcome → Type 0
PlaceBy256 accepted = Unit {0}
PlaceBy256 (refused number nowhere) = Unit {0}
PlaceBy256 (refused number (at_station station)) = Unit {0}
PlaceBy256 (refused number (on_page p offset)) = offset ≤ 256

pub whole_by_256 : (image : List ℕ) → PlaceBy256 (whole_check image)
whole_by_256 = whole_says PlaceBy256 (λ number l. tt) (λ station. tt) (λ number p offset k short. short) tt

-- The whole check never refuses by 13.
pub whole_not_13 : (image : List ℕ) (place : Place) → whole_check image ≡ refused 13 place → ⊥
whole_not_13 image place =
    whole_says (λ o. o ≡ refused 13 place → ⊥)
    (λ number l e. let is : number ≡ 13 = cc in omega arith)
    (λ station e. let is : ◌≡◌ {A = ℕ} 5 13 = cc in omega arith)
    (λ number p offset k short e. k.not_13 (cc))
    (λ e. never (cc))
    image
