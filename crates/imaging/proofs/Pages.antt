-- The pages of an image: what each has to say of the stations so far, pages one after the other of which one is
-- written, the loop over the stations, and the whole image.

pub mod Saying
pub mod Joining
pub mod Filling
pub mod Whole
