-- A law of a row, which the page reader cites too, as Rattle.rows.proofs.Behind: the entry behind a move.
pub mod Behind
