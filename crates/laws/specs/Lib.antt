-- What the functions of a step ask, and what is proved of reading.
pub mod Bounds
pub mod ReadingMeans
