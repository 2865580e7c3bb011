-- One step of a chain: it ends at the source, is lost, or goes on. Each follows from the two tests of the definition.
use Rattle.common.proofs.Ground.{◌≡◌, refl, sym, ◌∙◌, Bool, true, false, List, [], ◌∷◌, ◌++◌, ℕ, suc, ◌<◌, ◌≤◌}
use Rattle.common.proofs.Ground.{arith, length, eqb, ltb, eq-eqb, ne_eqb, lt-ltb, le-ltb, eqb-true, eqb-false}
use Rattle.common.proofs.Ground.{ltb-true, ltb-false}
use Rattle.common.specs.Numbers.{source_mark}
use Rattle.common.specs.Chains.{pred_at}
use Rattle.route.specs.Route.{Chain, whole, broken, lengthened, chain}

module _ (preds : List ℕ) (most v : ℕ) where
  pub chain_source : pred_at preds v ≡ source_mark → chain preds (suc most) v ≡ whole (v ∷ [])
  unfolding chain
  chain_source e = simp (eq-eqb _ _ e)

  pub chain_lost : (pred_at preds v ≡ source_mark → ⊥) → length preds ≤ pred_at preds v →
      chain preds (suc most) v ≡ broken
  unfolding chain
  chain_lost n h = simp (ne_eqb _ _ n, le-ltb _ _ h)

  pub chain_onward : (pred_at preds v ≡ source_mark → ⊥) → pred_at preds v < length preds →
      chain preds (suc most) v ≡ lengthened (chain preds most (pred_at preds v)) v
  unfolding chain
  chain_onward n h = simp (ne_eqb _ _ n, lt-ltb _ _ h)

-- The two ways to a whole chain: v is the source, or v stands behind the chain of its predecessor.
pub data WholeBy (preds : List ℕ) (most v : ℕ) (route : List ℕ) : Type 0 where
  at_source : pred_at preds v ≡ source_mark → route ≡ v ∷ [] → WholeBy preds most v route
  behind : (front : List ℕ) → pred_at preds v < length preds →
      chain preds most (pred_at preds v) ≡ whole front → route ≡ front ++ v ∷ [] → WholeBy preds most v route

pub whole_by : (preds : List ℕ) (most v : ℕ) (route : List ℕ) → chain preds (suc most) v ≡ whole route →
    WholeBy preds most v route
whole_by preds most v route e = tested (eqb u source_mark) (ltb u (length preds)) refl refl
  where
    u : ℕ
    u = pred_at preds v

    onward : (c : Chain) → chain preds most u ≡ c → u < length preds → whole route ≡ lengthened c v →
        WholeBy preds most v route
    onward (whole front) f h g = behind front h f (cc)
    onward broken f h g = absurd (let z : ◌≡◌ {A = ℕ} 0 1 = cc in omega arith)

    tested : (s t : Bool) → eqb u source_mark ≡ s → ltb u (length preds) ≡ t → WholeBy preds most v route
    tested true t a b =
        let is = eqb-true u source_mark a in
        let same : whole route ≡ whole (v ∷ []) = sym e ∙ chain_source preds most v is in
        at_source is (cc)
    tested false true a b =
        let h = ltb-true u (length preds) b in
        onward (chain preds most u) refl h (sym e ∙ chain_onward preds most v (eqb-false u source_mark a) h)
    tested false false a b =
        let lost = chain_lost preds most v (eqb-false u source_mark a) (ltb-false u (length preds) b) in
        let z : ◌≡◌ {A = ℕ} 0 1 = cc in
        absurd (omega arith)
