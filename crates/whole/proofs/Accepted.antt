-- What it means that the whole check accepts an image: the heading's check does, and every page is good. By induction
-- over the pages.
use Rattle.common.proofs.Ground.{◌≡◌, refl, ap, ◌∙◌, dite, List, ℕ, zero, suc, ◌+◌, ◌≤◌, ◌<◌, arith}
use Rattle.common.proofs.Ground.{ℕ_discrete}
use Rattle.common.proofs.Cases.{never}
use Rattle.commands.specs.declared.Move.{Move}
use Rattle.image.specs.Image.{Outcome, accepted, refused, heading_check, after_heading, page_count}
use Rattle.page.specs.Reading.{Reading, good, bad, Leaving, reading_of}
use Rattle.whole.specs.Check.{page_outcome, pages_from, whole_check}

-- A page that is read as good, and its content.
pub record GoodPage (image : List ℕ) (p : ℕ) : Type 0 where
  pub before : List Move
  pub stations : List Leaving
  pub reads : reading_of image p ≡ good before stations

pub record Wholly (image : List ℕ) : Type 0 where
  pub heading : heading_check image ≡ accepted
  pub page : (p : ℕ) → p < page_count image → GoodPage image p

module _ (image : List ℕ) where
  -- one page, and what follows it
  this_page : (p : ℕ) (r : Reading) (following : Outcome) → reading_of image p ≡ r
      → page_outcome p r following ≡ accepted → GoodPage image p × (following ≡ accepted)
  this_page p (good moves stations) following is e = (record { before = moves; stations = stations; reads = is }, e)
  this_page p (bad number offset) following is e = never (cc)

  pages_good : (count p : ℕ) → pages_from image count p ≡ accepted → (q : ℕ) → p ≤ q → q < p + count
      → GoodPage image q
  unfolding pages_from
  pages_good zero p e q from to = absurd (omega arith)
  pages_good (suc count) p e q from to =
      let cases = this_page p (reading_of image p) (pages_from image count (suc p)) refl e in
      dite (ℕ_discrete q p) (λ here. rw here cases.0)
      (λ later. pages_good count (suc p) cases.1 q (omega arith) (omega arith))

  pages_accepted : (count p : ℕ) → ((q : ℕ) → p ≤ q → q < p + count → GoodPage image q)
      → pages_from image count p ≡ accepted
  unfolding pages_from
  pages_accepted zero p each = refl
  pages_accepted (suc count) p each =
      ap (λ r. page_outcome p r (pages_from image count (suc p))) (each p (omega arith) (omega arith)).reads ∙
      pages_accepted count (suc p) (λ q from to. each q (omega arith) (omega arith))

  both_accepted : (heading following : Outcome) → after_heading heading following ≡ accepted
      → (heading ≡ accepted) × (following ≡ accepted)
  both_accepted accepted following e = (refl, e)
  both_accepted (refused number place) following e = never (cc)

  pub wholly : whole_check image ≡ accepted → Wholly image
  unfolding whole_check
  wholly e =
      let both = both_accepted (heading_check image) (pages_from image (page_count image) 0) e in
      record {
        heading = both.0;
        page = λ p h. pages_good (page_count image) 0 both.1 p (omega arith) (omega arith);
      }

  pub accepts : Wholly image → whole_check image ≡ accepted
  unfolding whole_check
  accepts w =
      ap (λ o. after_heading o (pages_from image (page_count image) 0)) w.heading ∙
      pages_accepted (page_count image) 0 (λ q from to. w.page q (omega arith))
