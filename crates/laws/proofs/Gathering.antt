-- Like terms: the test, what the gathered terms are and that nothing else is, and their bounds.
pub mod Like
pub mod Filters
pub mod Gathered
pub mod GatheredAlone
pub mod GatheredBounds
