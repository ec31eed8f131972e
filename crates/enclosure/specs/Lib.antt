-- The exact sum, and what is claimed over it.
pub mod Exact
pub mod Trust
-- the range of a row's numbers, which follows from it
pub mod RowRange
