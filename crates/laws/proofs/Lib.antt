-- What is proved of the definitions of `model`, by subject.
pub mod Text
pub mod Gathering
pub mod Steps
pub mod Bounds
pub mod Passages
