-- The demands leave no freedom: demand 2 fixes all three tables, for nets with the same moves the same ones, and one
-- page alone can be the refused one. From what the demands say, whatever the search.
use Rattle.common.proofs.Ground.{◌≡◌, refl, sym, ◌∙◌, ap, ◌⊎◌, inl, inr, ◌≢◌, ⊎_elim, dite, List, ℕ, suc, ◌+◌, ◌≤◌, ◌<◌}
use Rattle.common.proofs.Ground.{arith, ℕ_discrete, ltb, ext_get_or}
use Rattle.common.proofs.Cases.{le-or-lt}
use Rattle.common.specs.Numbers.{no_time, no_moves, source_mark, no_pred}
use Rattle.common.specs.Costs.{NoMore}
use Rattle.common.specs.Chains.{pred_at}
use Rattle.net.specs.Net.{Page, bad, Frame, Goes, Walk, here, onward, count}
use Rattle.net.specs.Demands.{time_at, moves_at, Spells, at_source, step, LeastTimes, RefusedPage}

-- Of pairs: no more than what is no more; both with one move more; and the same where neither is more.
pub more_more : {t m u n x k : ℕ} → NoMore t m u n → NoMore u n x k → NoMore t m x k
more_more a b =
    let le = a.0 in
    let on = b.0 in
    (omega arith, λ e. omega (arith, a.1 (omega arith), b.1 (omega arith)))

pub onward_more : {t m u n : ℕ} (w : ℕ) → NoMore t m u n → NoMore (t + w) (suc m) (u + w) (suc n)
onward_more w a = (omega (arith, a.0), λ e. omega (arith, a.1 (omega arith)))

same_pair : {t m u n : ℕ} → NoMore t m u n → NoMore u n t m → (t ≡ u) × (m ≡ n)
same_pair a b =
    let le = a.0 in
    let ge = b.0 in
    (omega arith, omega (arith, a.1 (omega arith), b.1 (omega arith)))

-- Every move of one net is a move of another; then every walk is one.
abbrev pub Among : Frame → (ℕ → Page) → Frame → (ℕ → Page) → Type 0
Among F page G other = (u v w : ℕ) → Goes F page u v w → Goes G other u v w

pub walk_among : {F G : Frame} {page other : ℕ → Page} {source v t m : ℕ} → Among F page G other
    → Walk F page source v t m → Walk G other source v t m
walk_among among here = here
walk_among among (onward {u = u} v w walk goes) = onward v w (walk_among among walk) (among u v w goes)

module _ (F : Frame) (page : ℕ → Page) (source : ℕ) where
  -- What the predecessors spell is a walk, and its last move comes from the predecessor.
  last_step : {preds : List ℕ} {v t m : ℕ} → Spells F page source preds v t m
      → ((v ≡ source) × (pred_at preds v ≡ source_mark))
      ⊎ ((w x k : ℕ) × Goes F page (pred_at preds v) v w × Spells F page source preds (pred_at preds v) x k
      × (t ≡ x + w) × (m ≡ suc k))
  last_step (at_source e) = inl (refl, e)
  last_step (step {t = x} {m = k} v w e g sp) = inr (w, x, k, rw e g, rw e sp, refl, refl)

  pub spells_walk : {preds : List ℕ} {v t m : ℕ} → Spells F page source preds v t m → Walk F page source v t m
  spells_walk (at_source e) = here
  spells_walk (step v w e g sp) = onward v w (spells_walk sp) g

  module _ {times moves preds : List ℕ} {reached : ℕ} (a : LeastTimes F page source times moves preds reached) where
    pub at_source_pred : pred_at preds source ≡ source_mark
    at_source_pred =
        let none = a.least source 0 0 here in
        ⊎_elim (λ k. k.1)
        (λ k. absurd (omega (arith, none.1 (omega (arith, none.0)), k.6)))
        (last_step (a.spells source (a.timed source 0 0 here)).1)

    -- by the predecessor of a station other than the source both its numbers are reached
    pub by_pred : (v : ℕ) → v ≢ source → time_at times v < no_time
        → (w : ℕ) × Goes F page (pred_at preds v) v w × (time_at times (pred_at preds v) + w ≡ time_at times v)
        × (suc (moves_at moves (pred_at preds v)) ≡ moves_at moves v)
    by_pred v ne h =
        ⊎_elim (λ k. absurd (ne k.0))
        (λ k.
        let u = pred_at preds v in
        let walk = spells_walk k.4 in
        let up = a.least u k.1 k.2 walk in
        let own = a.walk u (a.timed u k.1 k.2 walk) in
        let back = a.least v (time_at times u + k.0) (suc (moves_at moves u)) (onward v k.0 own k.3) in
        let same = same_pair (onward_more k.0 up) (rw (k.5, k.6) at back) in
        (k.0, k.3, omega (arith, same.0, k.5), omega (arith, same.1, k.6)))
        (last_step (a.spells v h).1)

-- Nets with as many stations, each with the same moves, whatever their pages.
pub record Alike (F : Frame) (page : ℕ → Page) (G : Frame) (other : ℕ → Page) : Type 0 where
  pub size : F.size ≡ G.size
  pub to : Among F page G other
  pub back : Among G other F page

pub itself : (F : Frame) (page : ℕ → Page) → Alike F page F page
itself F page = record { size = refl; to = λ u v w g. g; back = λ u v w g. g }

module _ {F G : Frame} {page other : ℕ → Page} {source : ℕ} (k : Alike F page G other)
    {times moves preds times' moves' preds' : List ℕ} {n n' : ℕ}
    (a : LeastTimes F page source times moves preds n) (b : LeastTimes G other source times' moves' preds' n') where
  same_numbers : (v : ℕ) → (time_at times v ≡ time_at times' v) × (moves_at moves v ≡ moves_at moves' v)
  same_numbers v =
      ⊎_elim
      (λ far.
      let is = a.untimed v far in
      ⊎_elim (λ also. let too = b.untimed v also in (is.0 ∙ sym too.0, is.1 ∙ sym too.1))
      (λ has. absurd (omega (arith, is.0, a.timed v _ _ (walk_among k.back (b.walk v has)))))
      (le-or-lt no_time (time_at times' v)))
      (λ near.
      let walk = walk_among k.to (a.walk v near) in
      same_pair (a.least v _ _ (walk_among k.back (b.walk v (b.timed v _ _ walk)))) (b.least v _ _ walk))
      (le-or-lt no_time (time_at times v))

  pred_no_more : (v : ℕ) → v ≢ source → time_at times v < no_time → pred_at preds' v ≤ pred_at preds v
  pred_no_more v ne h =
      let last = by_pred F page source a v ne h in
      let u = pred_at preds v in
      let of_u = same_numbers u in
      let of_v = same_numbers v in
      b.lowest u v last.0 ne (k.to u v last.0 last.1) (omega (arith, last.2, of_u.0, of_v.0))
      (omega (arith, last.3, of_u.1, of_v.1))

module _ {F G : Frame} {page other : ℕ → Page} {source : ℕ} (k : Alike F page G other)
    {times moves preds times' moves' preds' : List ℕ} {n n' : ℕ}
    (a : LeastTimes F page source times moves preds n) (b : LeastTimes G other source times' moves' preds' n') where
  same_pred : (v : ℕ) → pred_at preds v ≡ pred_at preds' v
  same_pred v = dite (ℕ_discrete v source)
      (λ e. rw e (at_source_pred F page source a ∙ sym (at_source_pred G other source b)))
      (λ ne.
      let t = (same_numbers k a b v).0 in
      ⊎_elim (λ far. (a.untimed v far).2 ∙ sym (b.untimed v (omega arith)).2)
      (λ near.
      let up = pred_no_more k a b v ne near in
      let turned : Alike G other F page = record { size = sym k.size; to = k.back; back = k.to } in
      omega (arith, pred_no_more turned b a v ne (omega arith)))
      (le-or-lt no_time (time_at times v)))

  pub least_times_fix : (times ≡ times') × (moves ≡ moves') × (preds ≡ preds') × (n ≡ n')
  least_times_fix =
      let sizes = a.sizes in
      let same = k.size in
      let also = b.sizes in
      let same_times = ext_get_or no_time times times' (omega arith) (λ v h. (same_numbers k a b v).0) in (
        same_times,
        ext_get_or no_moves moves moves' (omega arith) (λ v h. (same_numbers k a b v).1),
        ext_get_or no_pred preds preds' (omega arith) (λ v h. same_pred v),
        a.count ∙
            ap (λ l. count (λ v. ltb (time_at l v) no_time) F.size) same_times ∙
            ap (count (λ v. ltb (time_at times' v) no_time)) same ∙
            sym b.count,
      )

module _ (F : Frame) (page : ℕ → Page) (source : ℕ) where
  pub refused_page_one : {n p o n' p' o' : ℕ} → RefusedPage F page source n p o → RefusedPage F page source n' p' o'
      → (p ≡ p') × (bad n o ≡ bad n' o')
  refused_page_one {p = p} {p' = p'} a b =
      let up = a.first b.station b.time b.moves b.walk (rw (b.on, b.why)) in
      let down = b.first a.station a.time a.moves a.walk (rw (a.on, a.why)) in
      let same = same_pair up.0 down.0 in
      let station : a.station ≡ b.station =
      omega (arith, up.1 same.0 same.1, down.1 (sym same.0) (sym same.1)) in
      let one : p ≡ p' = sym a.on ∙ ap F.page_of station ∙ b.on in
      (one, sym a.why ∙ ap page one ∙ b.why)
