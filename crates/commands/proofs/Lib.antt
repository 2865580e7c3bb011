-- The laws of one command, for the crates above: they cite them as Rattle.commands.proofs.NAME.

-- What stands at an offset if a command is read there.
pub mod Lengths
