-- The loop of `relax_rows`.
pub mod Loop
