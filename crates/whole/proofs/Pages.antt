-- The whole check's loop over the pages: what is left of the pages decides it, and the verdict on a page decides
-- whether the pages behind it do.
use Rattle.common.proofs.Ground.{◌≡◌, refl, List, ℕ, suc, ◌+◌, ◌-◌, ◌≤◌, ◌<◌, arith, add-one}
use Rattle.image.specs.Image.{Outcome, accepted, refused, on_page}
use Rattle.page.specs.Reading.{Verdict, Good, Bad, Reading, good, bad, reading_of, verdict_of}
use Rattle.whole.specs.Check.{page_outcome, pages_from}

-- The outcome of page p by its verdict, and behind it that of what follows.
abbrev pub outcome_by : ℕ → Verdict → Outcome → Outcome
outcome_by p Good following = following
outcome_by p (Bad number offset) following = refused number (on_page p offset)

outcome_by_lem : (p : ℕ) (r : Reading) (following : Outcome)
    → page_outcome p r following ≡ outcome_by p (verdict_of r) following
outcome_by_lem p (good moves stations) following = refl
outcome_by_lem p (bad number offset) following = refl

module _ (image : List ℕ) (p pages : ℕ) where
  pub pages_step : {y : Verdict} → p < pages → verdict_of (reading_of image p) ≡ y
      → pages_from image (pages - p) p ≡ outcome_by p y (pages_from image (pages - (p + 1)) (p + 1))
  unfolding pages_from
  pages_step h e =
      let some_left : pages - p ≡ suc (pages - (p + 1)) = omega arith in
      rw (some_left, ← e, add-one p) (outcome_by_lem p (reading_of image p) (pages_from image (pages - suc p) (suc p)))

  pub pages_end : pages ≤ p → accepted ≡ pages_from image (pages - p) p
  unfolding pages_from
  pages_end h = let e : pages - p ≡ 0 = omega arith in rw e
