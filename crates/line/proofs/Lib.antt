-- The laws of a line written part by part, for the crates above: they cite them as Rattle.line.proofs.NAME.

pub mod Fronting
