pub mod Factors
pub mod Kept
mod OneProduct
