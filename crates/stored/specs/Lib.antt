-- The conversion of stored sheets, in general and with places lent, and its worked cases.
pub mod Conversion
pub mod Lent
pub mod Cases
