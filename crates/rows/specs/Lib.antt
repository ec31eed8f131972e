pub mod Room
pub mod View
