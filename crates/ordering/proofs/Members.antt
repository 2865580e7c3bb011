-- Two lists of records in order that have the same members are the same list: the first of each stands in the other,
-- and all that stands behind it comes later, so that the first ones are the same, and then the others stand in each
-- other too. The records of a wholly good image are in order.
use Rattle.common.proofs.Ground.{◌≡◌, refl, sym, subst, ◌∙◌, ⊎_elim, List, [], ◌∷◌, Memᴰ, Memᴰ-cases_cons}
use Rattle.common.proofs.Ground.{Memᴰ-head, Memᴰ-tail, Memᴰ-not_nil, ℕ, ◌+◌, ◌≤◌, arith}
use Rattle.image.specs.Bytes.{Bytes}
use Rattle.image.specs.Image.{accepted, station_count}
use Rattle.image.proofs.Heading.{formed}
use Rattle.whole.specs.Check.{whole_check}
use Rattle.whole.proofs.Accepted.{wholly}
use Rattle.move_record.specs.declared.MoveRecord.{MoveRecord}
use Rattle.roundtrip.specs.Records.{records_of}
use Rattle.roundtrip.proofs.Order.{Ordered, rising_ordered}
use Rattle.roundtrip.proofs.Back.{image_drawable}

-- A record that comes no sooner than station `own` with target `least`. In records in order all do.
abbrev Onward : ℕ → ℕ → MoveRecord → Type 0
Onward own least r = (own ≤ r.from) × (own ≡ r.from → least ≤ r.target)

members_onward : (size own least : ℕ) (rs : List MoveRecord) → Ordered size own least rs → (x : MoveRecord)
    → Memᴰ x rs → Onward own least x
members_onward size own least [] o x m = absurd (Memᴰ-not_nil m)
members_onward size own least (r ∷ rs) o x m =
    let first : Onward own least r =
    ⊎_elim (λ more. (omega arith, λ e. absurd (omega arith))) (λ same. (omega arith, λ e. omega arith)) o.1 in
    ⊎_elim (λ here. rw here first)
    (λ later.
    let behind = members_onward size r.from (r.target + 1) rs o.2 x later in
    let low = first.0 in
    let high = behind.0 in
    (omega arith, λ e. omega (arith, first.1 (omega arith), behind.1 (omega arith))))
    (Memᴰ-cases_cons m)

-- What stands in one list stands in another.
abbrev Within : List MoveRecord → List MoveRecord → Type 0
Within rs ss = (x : MoveRecord) → Memᴰ x rs → Memᴰ x ss

-- Record x comes behind r. Two do not come each behind the other.
abbrev Behind : MoveRecord → MoveRecord → Type 0
Behind r x = Onward r.from (r.target + 1) x

not_both : (r s : MoveRecord) → Behind r s → Behind s r → ⊥
not_both r s a b =
    let le = a.0 in
    let ge = b.0 in
    omega (arith, a.1 (omega arith), b.1 (omega arith))

module _ (size : ℕ) where
  -- Records in order behind r, all of which come behind it.
  abbrev OrderedBehind : MoveRecord → List MoveRecord → Type 0
  OrderedBehind r rs = Ordered size r.from (r.target + 1) rs

  behind : (r : MoveRecord) (rs : List MoveRecord) → OrderedBehind r rs → (x : MoveRecord) → Memᴰ x rs
      → Behind r x
  behind r = members_onward size r.from (r.target + 1)

  same_first : (r s : MoveRecord) (rs ss : List MoveRecord) → OrderedBehind r rs → OrderedBehind s ss
      → Memᴰ r (s ∷ ss) → Memᴰ s (r ∷ rs) → r ≡ s
  same_first r s rs ss o k (Memᴰ-head e) m = e
  same_first r s rs ss o k (Memᴰ-tail l) (Memᴰ-head e) = sym e
  same_first r s rs ss o k (Memᴰ-tail l) (Memᴰ-tail m) =
      absurd (not_both r s (behind r rs o s m) (behind s ss k r l))

  rest_within : (r s : MoveRecord) (rs ss : List MoveRecord) → r ≡ s → OrderedBehind r rs → Within (r ∷ rs) (s ∷ ss)
      → Within rs ss
  rest_within r s rs ss same o within x m = by_place (within x (Memᴰ-tail m))
    where
      by_place : Memᴰ x (s ∷ ss) → Memᴰ x ss
      by_place (Memᴰ-head e) =
          let own : Behind r r = subst (Behind r) (e ∙ sym same) (behind r rs o x m) in absurd (not_both r r own own)
      by_place (Memᴰ-tail l) = l

  pub same_members : (own least own' least' : ℕ) (rs ss : List MoveRecord) → Ordered size own least rs
      → Ordered size own' least' ss → Within rs ss → Within ss rs → rs ≡ ss
  same_members own least own' least' [] [] o k to back = refl
  same_members own least own' least' [] (s ∷ ss) o k to back =
      absurd (Memᴰ-not_nil (back s (Memᴰ-head refl)))
  same_members own least own' least' (r ∷ rs) [] o k to back =
      absurd (Memᴰ-not_nil (to r (Memᴰ-head refl)))
  same_members own least own' least' (r ∷ rs) (s ∷ ss) o k to back =
      let first =
      same_first r s rs ss o.2 k.2 (to r (Memᴰ-head refl)) (back s (Memᴰ-head refl)) in
      cc (same_members r.from (r.target + 1) s.from (s.target + 1) rs ss o.2 k.2
      (rest_within r s rs ss first o.2 to) (rest_within s r ss rs (sym first) k.2 back))

pub records_ordered : (image : List ℕ) → Bytes image → whole_check image ≡ accepted
    → Ordered (station_count image) 0 0 (records_of image)
records_ordered image bytes e =
    let w = wholly image e in
    rising_ordered (station_count image) (records_of image)
    (image_drawable image bytes w (formed image w.heading)).all_rising
