-- The two roundings, what their words say, and a quotient within a radius.
pub mod Rounding
pub mod RoundingMeans
pub mod Enclosure
