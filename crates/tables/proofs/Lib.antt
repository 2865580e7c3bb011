-- The laws of tables written from cells, for the crates above: they cite them as Rattle.tables.proofs.NAME.

pub mod Finishing
