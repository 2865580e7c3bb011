-- The queue of pages under a change of one leaf: where its group is the least of its leaves again, every group is. And
-- the least of the groups is the least of all leaves.
use Rattle.common.proofs.Ground.{◌≡◌, refl, ap, sym, ◌∙◌, Bool, true, false, ◌≢◌, List, ℕ, zero, suc, ◌+◌, ◌-◌, ◌*◌}
use Rattle.common.proofs.Ground.{◌/◌, ◌<◌, ◌≤◌, min, arith, add-one, get_or, set, take, replicate, length-set}
use Rattle.common.proofs.Ground.{length-replicate, get_or-replicate, get_or-set_same, get_or-set_other}
use Rattle.common.proofs.Ground.{eqb, ltb, eqb-false, eqb-true, ltb-true, ltb-false}
use Rattle.common.specs.Numbers.{nobody}
use Rattle.queue.specs.Keys.{least_in, least_from}
use Rattle.queue.specs.Queue.{Groups, Put}
use Rattle.queue.proofs.Least.{least_none, least_more, least_onward}
use Rattle.queue.proofs.Least.{least_before, least_behind, least_lowered}

-- The leaf of page p becomes x and its group y, which is the least of the group's leaves.
pub put_both : (queue : List ℕ) (p x y : ℕ) → p < 256 → Groups queue →
    y ≡ least_from (set queue p x) (16 * (p / 16)) 16 → Put queue p x (set (set queue p x) (256 + p / 16) y)
put_both queue p x y h q e = record {
  groups = record {
    size = length-set (set queue p x) (256 + p / 16) y ∙ length-set queue p x ∙ q.size;
    group = λ g l. group g l (eqb g (p / 16)) refl;
  };
  same = get_or-set_other (set queue p x) (256 + p / 16) p y 0 (λ f. omega arith) ∙
      get_or-set_same queue p x 0 (omega (arith, q.size));
  other = λ r l n. get_or-set_other (set queue p x) (256 + p / 16) r y 0 (λ f. omega arith) ∙
      get_or-set_other queue p r x 0 n;
}
  where
    leaves : (g : ℕ) → g < 16 →
        least_from (set (set queue p x) (256 + p / 16) y) (16 * g) 16 ≡ least_from (set queue p x) (16 * g) 16
    leaves g l = least_behind (set queue p x) (256 + p / 16) y (16 * g) 16 (omega arith)

    apart : (g : ℕ) → g ≢ p / 16 → (before : Bool) → ltb p (16 * g) ≡ before →
        least_from (set queue p x) (16 * g) 16 ≡ least_from queue (16 * g) 16
    apart g n true t = least_before queue p x (16 * g) 16 (ltb-true p (16 * g) t)
    apart g n false t =
        let past : 16 * g ≤ p = ltb-false p (16 * g) t in
        least_behind queue p x (16 * g) 16 (omega (arith, n))

    group : (g : ℕ) → g < 16 → (same : Bool) → eqb g (p / 16) ≡ same →
        get_or (set (set queue p x) (256 + p / 16) y) (256 + g) 0 ≡
        least_from (set (set queue p x) (256 + p / 16) y) (16 * g) 16
    group g l true t =
        let here : g ≡ p / 16 = eqb-true g (p / 16) t in
        rw (leaves g l, here)
        (get_or-set_same (set queue p x) (256 + p / 16) y 0 (omega (arith, length-set queue p x, q.size)) ∙ e)
    group g l false t =
        let n : g ≢ p / 16 = eqb-false g (p / 16) t in
        rw (leaves g l, apart g n (ltb p (16 * g)) refl)
        (get_or-set_other (set queue p x) (256 + p / 16) (256 + g) y 0 (λ f. n (omega arith)) ∙
        get_or-set_other queue p (256 + g) x 0 (λ f. omega arith) ∙ q.group g l)

-- What `lower_leaf` writes.
pub put_lower : (queue : List ℕ) (p key x y : ℕ) → p < 256 → Groups queue → x ≡ min (get_or queue p 0) key →
    y ≡ min (get_or (set queue p x) (256 + p / 16) 0) key →
    Put queue p (min (get_or queue p 0) key) (set (set queue p x) (256 + p / 16) y)
put_lower queue p key x y h q e f =
    rw e (put_both queue p (min (get_or queue p 0) key) y h q
    (f ∙ ap (λ k. min k key)
    (get_or-set_other queue p (256 + p / 16) x 0 (λ g. omega arith) ∙ q.group (p / 16) (omega arith)) ∙
    sym (least_lowered queue p key (16 * (p / 16)) 16 (omega arith) (omega arith) (omega (arith, q.size)))))

-- What `set_leaf` writes.
pub put_set : (queue : List ℕ) (p key y : ℕ) → p < 256 → Groups queue →
    y ≡ least_from (set queue p key) (16 * (p / 16)) (16 * (p / 16) + 16 - 16 * (p / 16)) →
    Put queue p key (set (set queue p key) (256 + p / 16) y)
put_set queue p key y h q e =
    let width : 16 * (p / 16) + 16 - 16 * (p / 16) ≡ 16 = omega arith in
    put_both queue p key y h q (rw width at e)

-- The least of the first k groups, which is what `top` looks at, is the least of their leaves.
pub top_least : (queue : List ℕ) → Groups queue → (k : ℕ) → k ≤ 16 →
    least_from queue 256 k ≡ least_in (take (16 * k) queue)
top_least queue q zero h = least_none queue 256 ∙ sym (least_none queue 0)
top_least queue q (suc k) h =
    let next : 16 * (k + 1) ≡ 16 * k + 16 = omega arith in
    rw (sym (add-one k), next)
    (least_more queue 256 k (omega (arith, q.size)) ∙
    ap (λ x. min x (get_or queue (256 + k) 0)) (top_least queue q k (omega arith)) ∙
    ap (λ x. min (least_in (take (16 * k) queue)) x) (q.group k h) ∙
    sym (least_onward queue (16 * k) 16))

-- A new array is the queue in which nobody waits.
pub least_empty : (size lo k : ℕ) → least_from (replicate size nobody) lo k ≡ nobody
unfolding least_in
least_empty size zero zero = refl
least_empty zero zero (suc k) = refl
least_empty (suc size) zero (suc k) = omega (arith, least_empty size zero k)
least_empty zero (suc lo) zero = refl
least_empty zero (suc lo) (suc k) = refl
least_empty (suc size) (suc lo) k = least_empty size lo k

pub empty_groups : Groups (replicate 272 nobody)
empty_groups = record {
  size = length-replicate 272 nobody;
  group = λ g l. get_or-replicate 272 (256 + g) nobody 0 (omega arith) ∙ sym (least_empty 272 (16 * g) 16);
}
