-- Laws of finite ranges and of lists: no sheet is mentioned.
pub mod Ranges
pub mod EveryLaws
pub mod Least
-- lists, and arrays that are stored to
pub mod Lists
pub mod Stores
-- fractions, by cross-multiplication
pub mod Fractions
