-- No working number of a step leaves 64 bits.
pub mod Reach
pub mod Weights
pub mod ShareBounds
pub mod Invariant
pub mod WorkingNumbers
pub mod RatioNumbers
pub mod CountedTerms
pub mod SheetBounds
