-- The laws of an image, for the crates above: they cite them as Rattle.image.proofs.NAME.

-- Its parts, and what images that agree have in common.
pub mod Parts
pub mod Agree
-- The heading's check, and the scans over bytes.
pub mod Heading
pub mod Scans
