-- The law behind `tell`: the four numbers put into an answer.

pub mod Four
