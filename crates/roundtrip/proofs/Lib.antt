pub mod Fit
pub mod Order
pub mod Groups
pub mod Images
pub mod Contents
pub mod Drawable
pub mod Back
pub mod Few
