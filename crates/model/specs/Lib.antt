-- Documents 01 and 02 as definitions, in their order.
-- a sheet: as numbers, and from bytes
pub mod Sheet
pub mod Reading
-- the rounded rule
pub mod LikeTerms
pub mod Step
-- rows in a buffer, a passage, and the answer's text
pub mod Rows
pub mod Passage
pub mod Answer
-- worked cases
pub mod Cases
