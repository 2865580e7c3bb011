-- Writing a trail from its end: what is written and what is still to be written are at each turn the whole result.
use Rattle.common.proofs.Ground.{◌≡◌, refl, sym, ◌∙◌, List, [], ◌∷◌, append_assoc, ℕ, zero, suc, ◌-◌, ◌<◌, ◌≤◌, arith}
use Rattle.common.proofs.Ground.{length, drop, set, length-set, drop-cons, drop-set-lt, get_or-set_same}
use Rattle.common.specs.Chains.{pred_at}
use Rattle.route.specs.Route.{trail, written_to}

stored : (out : List ℕ) (k v : ℕ) → k < length out → drop k (set out k v) ≡ v ∷ drop (suc k) out
stored out k v h =
    let inside : k < length (set out k v) = simp length-set h in
    drop-cons (set out k v) k 0 inside ∙
    rw (get_or-set_same out k v 0 h, drop-set-lt (suc k) out k v (omega arith))

-- One station more is written.
pub written_more : (preds out : List ℕ) (left v : ℕ) → 0 < left → left ≤ length out →
    written_to preds (left - 1) (pred_at preds v) (set out (left - 1) v) ≡ written_to preds left v out
unfolding trail
written_more preds out zero v some h = absurd (omega arith)
written_more preds out (suc k) v some h =
    let less : suc k - 1 ≡ k = omega arith in
    rw (less, stored out k v (omega arith))
    (sym (append_assoc (trail preds k (pred_at preds v)) (v ∷ []) (drop (suc k) out)))

-- The output on the way: it keeps its length, there is room for what is left, and the result is the one of the start.
pub record Writing (preds : List ℕ) (station count : ℕ) (start out : List ℕ) (v left : ℕ) : Type 0 where
  pub size : length out ≡ length start
  pub room : left ≤ length out
  pub same : written_to preds left v out ≡ written_to preds count station start

pub write-start : (preds : List ℕ) (station count : ℕ) (out : List ℕ) → count ≤ length out →
    Writing preds station count out out station count
write-start preds station count out h = record { size = refl; room = h; same = refl }

pub write_more : {preds : List ℕ} {station count : ℕ} {start out : List ℕ} {v left before : ℕ} →
    Writing preds station count start out v left → 0 < left → before ≡ pred_at preds v →
    Writing preds station count start (set out (left - 1) v) before (left - 1)
write_more {preds} {station} {count} {start} {out} {v} {left} {before} inv some e = record {
  size = simp length-set inv.size;
  room = simp length-set (omega (arith, inv.room));
  same = rw e (written_more preds out left v some inv.room ∙ inv.same);
}

pub write_end : {preds : List ℕ} {station count : ℕ} {start out : List ℕ} {v left : ℕ} →
    Writing preds station count start out v left → left ≤ 0 → out ≡ written_to preds count station start
unfolding trail
write_end {left = left} inv h =
    let none : left ≡ 0 = omega arith in
    rw none at inv.same
