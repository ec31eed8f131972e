-- Laws of whole numbers, of enclosures, of the two roundings, and of numbers in machine words.
pub mod Integers
pub mod Enclosure
pub mod Roundings
pub mod Machine
