-- Chains of predecessors: what a table of them says of a station, and the steps that lead back from it.
use Rattle.std.specs.Prelude.{◌≡◌, ◌≢◌, List, ℕ, zero, suc, ◌<◌, get_or}
use Rattle.common.specs.Numbers.{source_mark, no_pred}

-- The entry of a station; a number that is no station has none.
abbrev pub pred_at : List ℕ → ℕ → ℕ
pred_at preds v = get_or preds v no_pred

-- The number that k steps back from v meet.
unfoldable pub back : List ℕ → ℕ → ℕ → ℕ
back preds zero v = v
back preds (suc k) v = back preds k (pred_at preds v)

-- C-15: "every predecessor chain still ends at the source", of a table for so many stations: the source has 65,534, and
-- nobody else has; every station that has a predecessor is led there by fewer steps than there are stations.
pub record ChainsEnd (size source : ℕ) (preds : List ℕ) : Type 0 where
  pub source_entry : pred_at preds source ≡ source_mark
  pub no_other : (v : ℕ) → pred_at preds v ≡ source_mark → v ≡ source
  pub ends : (v : ℕ) → pred_at preds v ≢ no_pred → (k : ℕ) × (k < size) × (back preds k v ≡ source)
