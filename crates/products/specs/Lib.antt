pub mod Orders
pub mod Table
