-- Where a distance stands in the table.
use Rattle.common.proofs.Ground.{List, ℕ, ◌+◌, ◌*◌, ◌≤◌, ◌<◌, arith, length, mul-le-mul_right}
use Rattle.store.specs.Ring.{Table}

-- The table has no more than 240 times 240 entries.
pub table_small : {pages : ℕ} {distances : List ℕ} → Table pages distances → length distances ≤ 57600
table_small {pages} table =
    omega (arith, mul-le-mul_right pages table.few.1, table.full, table.few.1)

pub in_table : {pages : ℕ} {distances : List ℕ} {last p : ℕ} → Table pages distances → last < pages → p < pages
    → last * pages + p < length distances
in_table {pages} table row column = omega (arith, mul-le-mul_right pages row, table.full, column)
