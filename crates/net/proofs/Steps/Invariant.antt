-- What holds between the steps of either search. The stations whose moves have been relaxed at their present costs
-- are the fresh ones in the DF search and the settled ones in the plain search: the invariant is over either. It
-- survives because all that a step does happens at the settled station's cost or later, so what is no later stays.
use Rattle.common.proofs.Ground.{◌≡◌, refl, sym, ◌∙◌, Bool, true, false, ◌⊎◌, inl, inr, ⊎_elim, dite, ℕ, ◌+◌, ◌*◌, ◌/◌}
use Rattle.common.proofs.Ground.{◌≤◌, ◌<◌, arith, ℕ_discrete, length-set}
use Rattle.common.proofs.Cases.{le-or-lt}
use Rattle.net.specs.Net.{Page, Frame}
use Rattle.net.specs.Search.{State, mark_of, cost_of, pred_of, is_fresh, is_settled, settle}
use Rattle.net.proofs.Sound.{Sound}
use Rattle.net.proofs.Basics.Least.{Before}
use Rattle.net.proofs.Basics.Marks.{set_all, settle_settles, settle_other}
use Rattle.net.proofs.Relaxing.Relax.{Tables, Spread}
use Rattle.net.proofs.Relaxing.Labels.{Labels}
use Rattle.net.proofs.Steps.Choose.{Next}

-- From s to t nothing happened to station x at T or earlier.
pub record Above (F : Frame) (T : ℕ) (s t : State) (x : ℕ) : Type 0 where
  pub mono : cost_of F t x ≤ cost_of F s x
  pub time : cost_of F s x ≤ T → cost_of F t x ≡ cost_of F s x
  pub fresh : cost_of F s x ≤ T → is_fresh s x ≡ true → is_fresh t x ≡ true
  pub high : T < cost_of F s x → T < cost_of F t x

module _ (F : Frame) (T : ℕ) where
  pub above_none : (s : State) (x : ℕ) → Above F T s s x
  above_none s x = record { mono = omega arith; time = λ h. refl; fresh = λ h e. e; high = λ h. h }

  pub above_trans : (r s t : State) (x : ℕ) → Above F T r s x → Above F T s t x → Above F T r t x
  above_trans r s t x p q = record {
    mono = omega arith;
    time = λ h. let e = p.time h in q.time (omega arith) ∙ e;
    fresh = λ h f. let e = p.time h in q.fresh (omega arith) (p.fresh h f);
    high = λ h. q.high (p.high h);
  }

  -- moves relaxed from a station at T or later
  pub spread_above : (u : ℕ) (s t : State) → T ≤ cost_of F s u → Spread F u s t → (x : ℕ) → Above F T s t x
  spread_above u s t le p x =
      let e = p.entry x in
      record {
        mono = e.mono;
        time = λ h. (e.low (omega arith)).time;
        fresh = λ h f. (e.low (omega arith)).fresh ∙ f;
        high = λ h. ⊎_elim (λ k. omega (arith, (e.low k).time)) (λ k. omega (arith, e.high k))
            (le-or-lt (cost_of F s x) (cost_of F s u));
      }

module _ (F : Frame) where
  -- settled stations come before the others that have a time
  abbrev pub Ordered : State → Type 0
  Ordered s = (x y : ℕ) → is_settled s x ≡ true → is_settled s y ≡ false → cost_of F s y < F.none
      → Before (cost_of F s) x y

  pub settle_tables : (u : ℕ) (s : State) → Tables F s → Tables F (settle u s)
  settle_tables u s z = record {
    costs = z.costs;
    preds = z.preds;
    marks = length-set s.marks u (mark_of s u / 2 * 2 + 1) ∙ z.marks;
    below = λ x. set_all (λ m. m < 4) s.marks u x (mark_of s u / 2 * 2 + 1) 0 (omega (arith, z.below u))
        (z.below x);
    capped = z.capped;
  }

  module _ (s : State) (z : Tables F s) (u : ℕ) (n : Next F s u) where
    pub settled_cases : (x : ℕ) → is_settled (settle u s) x ≡ true → (x ≡ u) ⊎ (is_settled s x ≡ true)
    settled_cases x e = dite (ℕ_discrete x u) (λ q. inl q)
        (λ ne. inr (sym (settle_other s u (omega (arith, z.marks, n.small)) x ne) ∙ e))

    pub settled_own : is_settled (settle u s) u ≡ true
    settled_own = settle_settles s u (omega (arith, z.marks, n.small))

    pub settled_still : (x : ℕ) → is_settled s x ≡ true → is_settled (settle u s) x ≡ true
    settled_still x e = dite (ℕ_discrete x u) (λ q. rw q settled_own)
        (λ ne. settle_other s u (omega (arith, z.marks, n.small)) x ne ∙ e)

    pub unsettled_before : (x : ℕ) → is_settled (settle u s) x ≡ false → is_settled s x ≡ false
    unsettled_before x e = dite (ℕ_discrete x u)
        (λ q. rw q n.pending)
        (λ ne. sym (settle_other s u (omega (arith, z.marks, n.small)) x ne) ∙ e)

module _ {F : Frame} {page : ℕ → Page} {source : ℕ} (ok : Sound F page source) (relaxed : State → ℕ → Bool) where
  pub record Inv (s : State) : Type 0 where
    pub tables : Tables F s
    pub labels : Labels ok (cost_of F s) (pred_of s) (relaxed s)
    pub done : (x : ℕ) → is_settled s x ≡ true → relaxed s x ≡ true
    pub order : Ordered F s

  -- u is settled, and what else a step does happens at u's cost or later
  module _ (s : State) (i : Inv s) (u : ℕ) (n : Next F s u) (t : State)
      (settled : (x : ℕ) → is_settled t x ≡ is_settled (settle u s) x) (above : (x : ℕ)
      → Above F (cost_of F s u) s t x) where
    -- nobody settled is later than u
    pub settled_by : (x : ℕ) → is_settled t x ≡ true → cost_of F s x ≤ cost_of F s u
    settled_by x e = ⊎_elim (λ q. rw q (omega arith)) (λ k. (i.order x u k n.pending n.timed).low)
        (settled_cases F s i.tables u n x (sym (settled x) ∙ e))

    before_y : (x y : ℕ) → is_settled t x ≡ true → is_settled t y ≡ false → cost_of F s y < F.none
        → Before (cost_of F s) x y
    before_y x y sx sy h =
        let open_y = unsettled_before F s i.tables u n y (sym (settled y) ∙ sy) in
        ⊎_elim (λ q. rw q (n.first y open_y h)) (λ k. i.order x y k open_y h)
        (settled_cases F s i.tables u n x (sym (settled x) ∙ sx))

    ordered_after : Ordered F t
    ordered_after x y sx sy h =
        let lx = settled_by x sx in
        let ex = (above x).time lx in
        ⊎_elim
        (λ k. let ey = (above y).time k in
        let b = before_y x y sx sy (omega arith) in
        record { low = omega arith; tie = λ g. b.tie (omega arith) })
        (λ k. let l = (above y).high k in record { low = omega arith; tie = λ g. absurd (omega arith) })
        (le-or-lt (cost_of F s y) (cost_of F s u))

    pub inv_after : Tables F t → Labels ok (cost_of F t) (pred_of t) (relaxed t)
        → ((x : ℕ) → is_settled t x ≡ true → relaxed t x ≡ true) → Inv t
    inv_after z l d = record { tables = z; labels = l; done = d; order = ordered_after }
