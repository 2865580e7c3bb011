pub mod Reading
pub mod Good
pub mod Open
pub mod Laying
