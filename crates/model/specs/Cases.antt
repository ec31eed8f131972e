-- Worked cases of the definitions, a table for each chapter. proofs/Cases.antt has a theorem for each, that all of it holds.
pub mod Forms
pub mod Sheets
pub mod Soundings
pub mod Steps
pub mod Rows
pub mod Readings
pub mod Verdicts
pub mod Gathering
pub mod Numbers
