-- A table of coefficients: one term more, one order more, all orders.
mod TermByTerm
pub mod Filling
pub mod Filled
