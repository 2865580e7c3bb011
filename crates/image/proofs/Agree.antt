-- Images of one length that agree on the heading and the directory have the same heading check.
use Rattle.common.proofs.Ground.{◌≡◌, ap, sym, ◌∙◌, List, ℕ, ◌<◌, arith, length, get_or, get_or-take}
use Rattle.image.specs.Image.{station_count, page_count, heading_check, AgreeOnHeading, AgreeOnDirectory}

module _ (image other : List ℕ) where
  byte_agrees : (i : ℕ) → AgreeOnHeading image other → i < 4 → get_or image i 0 ≡ get_or other i 0
  byte_agrees i e h = sym (get_or-take 4 image i 0 h) ∙ ap (λ l. get_or l i 0) e ∙ get_or-take 4 other i 0 h

  pub stations_agree : AgreeOnHeading image other → station_count image ≡ station_count other
  stations_agree e = omega (arith, byte_agrees 0 e (omega arith), byte_agrees 1 e (omega arith))

  pub pages_agree : AgreeOnHeading image other → page_count image ≡ page_count other
  pages_agree e = omega (arith, byte_agrees 2 e (omega arith), byte_agrees 3 e (omega arith))

  pub heading_agrees : length image ≡ length other → AgreeOnHeading image other → AgreeOnDirectory image other
      → heading_check image ≡ heading_check other
  unfolding heading_check
  heading_agrees l e d = rw (l, stations_agree e, pages_agree e, d)
