pub mod Balls
pub mod Ratios
