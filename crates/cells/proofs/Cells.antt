-- Cells compare as pairs: by cost, then by predecessor. So the lesser of two cells is document 01's rule.
use Rattle.common.proofs.Ground.{◌≡◌, refl, Bool, true, false, ◌&&◌, ℕ, ◌<◌, min, arith, eqb, ltb}
use Rattle.common.proofs.Ground.{ltb-true, ltb-false, eqb-true, eqb-false}
use Rattle.common.specs.Numbers.{nobody}
use Rattle.common.specs.Pick.{pick}
use Rattle.queue.specs.Keys.{packed}
use Rattle.cells.specs.Cells.{most_cost}

-- A cell that has a cost, as document 01 has it: less cost, or equal cost and lower predecessor.
pub cell_rule : (cost pred sum u : ℕ) → pred < 2048 → u < 2048 → min (packed cost pred) (packed sum u)
    ≡ pick (ltb sum cost) (packed sum u) (pick (eqb sum cost && ltb u pred) (packed cost u) (packed cost pred))
cell_rule cost pred sum u h k = go (ltb sum cost) (eqb sum cost) (ltb u pred) refl refl refl
  where
    go : (a b c : Bool) → ltb sum cost ≡ a → eqb sum cost ≡ b → ltb u pred ≡ c →
        min (packed cost pred) (packed sum u)
        ≡ pick a (packed sum u) (pick (b && c) (packed cost u) (packed cost pred))
    go true b c e f g = omega (arith, ltb-true sum cost e)
    go false true true e f g = omega (arith, eqb-true sum cost f, ltb-true u pred g)
    go false true false e f g = omega (arith, eqb-true sum cost f, ltb-false u pred g)
    go false false c e f g = omega (arith, ltb-false sum cost e, eqb-false sum cost f)

-- Offered to nobody's cell, every sum lowers it.
pub cell_first : (sum u : ℕ) → sum < most_cost → u < 2048 → min nobody (packed sum u) ≡ packed sum u
cell_first sum u h k = omega arith
