pub mod Places
pub mod Views
