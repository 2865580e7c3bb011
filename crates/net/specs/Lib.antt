pub mod Net
pub mod Search
pub mod Demands
pub mod Ways
pub mod Run
