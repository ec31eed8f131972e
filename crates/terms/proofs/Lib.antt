pub mod Built
pub mod Added
