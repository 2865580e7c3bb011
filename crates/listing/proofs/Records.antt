-- The records of so many stations: those of the first, and behind them those of the others; one station more at the
-- end; and no number of an image's first stations has more records than all.
use Rattle.common.proofs.Ground.{◌≡◌, ap, ◌∙◌, List, ◌++◌, append_assoc, append-nil, ℕ, zero, suc, ◌+◌, ◌-◌}
use Rattle.common.proofs.Ground.{◌≤◌, arith, length, length-append, add-zero, add-suc, suc-add, zero-add}
use Rattle.roundtrip.specs.Records.{records_at, records_from}

module _ (image : List ℕ) where
  pub records_more : (count others u : ℕ)
      → records_from image (count + others) u ≡ records_from image count u ++ records_from image others (u + count)
  unfolding records_from
  records_more zero others u = simp (zero-add, add-zero)
  records_more (suc count) others u =
      rw suc-add
      (ap (λ l. records_at image u ++ l) (records_more count others (suc u)) ∙
      simp (append_assoc, suc-add, add-suc))

  pub records_next : (u : ℕ) → records_from image (u + 1) 0 ≡ records_from image u 0 ++ records_at image u
  unfolding records_from
  records_next u = records_more u 1 0 ∙ simp (zero-add, append-nil)

  pub records_most : (count all : ℕ) → count ≤ all
      → length (records_from image count 0) ≤ length (records_from image all 0)
  records_most count all h =
      let e : all ≡ count + (all - count) = omega arith in
      rw (e, records_more, length-append) (omega arith)
