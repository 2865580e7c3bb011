-- The count of a chain's stations, followed from its end: those passed and those of the chain that is left are at each
-- turn those of the whole chain.
use Rattle.common.proofs.Ground.{◌≡◌, refl, sym, ap, ◌∙◌, List, ℕ, suc, ◌+◌, ◌-◌, ◌<◌, ◌≤◌, arith, length, length-append, [], ◌∷◌, ◌++◌}
use Rattle.std.specs.Prelude.{Option, Some, None}
use Rattle.common.specs.Numbers.{source_mark}
use Rattle.common.specs.Chains.{pred_at}
use Rattle.route.specs.Route.{Chain, whole, broken, lengthened, chain, stations_of}
use Rattle.route.proofs.Steps.{chain_source, chain_lost, chain_onward}

-- The stations passed and those of a chain; none where the chain is broken.
abbrev pub counted_from : ℕ → Chain → Option ℕ
counted_from passed (whole route) = Some (passed + length route)
counted_from passed broken = None

counted_more : (passed v : ℕ) (c : Chain) → counted_from passed (lengthened c v) ≡ counted_from (passed + 1) c
counted_more passed v (whole route) =
    let e : passed + length (route ++ v ∷ []) ≡ passed + 1 + length route = simp length-append (omega arith) in
    ap (λ n. Some n) e
counted_more passed v broken = refl

-- The count is at v, as the station of this number.
pub record Counting (preds : List ℕ) (station v passed : ℕ) : Type 0 where
  pub some : 0 < passed
  pub within : passed ≤ suc (length preds)
  pub same : stations_of (chain preds (length preds) station) ≡
      counted_from (passed - 1) (chain preds (suc (length preds) - passed) v)

module _ (preds : List ℕ) (station : ℕ) where
  module _ (v passed before : ℕ) (inv : Counting preds station v passed) where
    pub count_end : length preds < passed → None ≡ stations_of (chain preds (length preds) station)
    unfolding chain
    count_end h =
        let none : suc (length preds) - passed ≡ 0 = omega arith in
        sym (rw none at inv.same)

    module _ (more : passed ≤ length preds) (e : before ≡ pred_at preds v) where
      abbrev rest : ℕ
      rest = length preds - passed

      left : suc (length preds) - passed ≡ suc rest
      left = omega arith

      pub count_source : before ≡ source_mark → Some passed ≡ stations_of (chain preds (length preds) station)
      count_source s =
          let same = rw (left, chain_source preds rest v (sym e ∙ s)) at inv.same in
          let counted : passed ≡ passed - 1 + 1 = omega (arith, inv.some) in
          ap (λ n. Some n) counted ∙ sym same

      pub count_lost : (before ≡ source_mark → ⊥) → length preds ≤ before →
          None ≡ stations_of (chain preds (length preds) station)
      count_lost n h =
          sym (rw (left, chain_lost preds rest v (λ f. n (e ∙ f)) (omega arith)) at inv.same)

      pub count_onward : (before ≡ source_mark → ⊥) → before < length preds → Counting preds station before (passed + 1)
      count_onward n h =
          let next : passed + 1 - 1 ≡ passed - 1 + 1 = omega (arith, inv.some) in
          let fewer : suc (length preds) - (passed + 1) ≡ rest = omega arith in
          record {
            some = omega arith;
            within = omega arith;
            same =
                rw (left, chain_onward preds rest v (λ f. n (e ∙ f)) (omega arith)) at inv.same ∙
                counted_more (passed - 1) v (chain preds rest (pred_at preds v)) ∙
                rw (next, fewer, e);
          }
