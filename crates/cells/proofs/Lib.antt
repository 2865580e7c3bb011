-- The laws of a cell, the rule of document 01 (Cells), and of a move relaxed, which callers cite (Relaxed).
pub mod Cells
pub mod Relaxed
