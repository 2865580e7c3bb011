-- The laws of a judgement, for the crates above: they cite them as Rattle.rules.proofs.NAME.

-- What a judgement says of a command.
pub mod Judging
-- The station that is due, by its slot.
pub mod Due
