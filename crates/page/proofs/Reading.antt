-- The page reader: a command read as one step of the definition, the rows, and what the reader's loops keep.

pub mod Steps
pub mod Laying
pub mod Progress
