-- From bytes to numbers and back: questions in order, parsers, what reading a sheet gives, a number's decimal text.
pub mod Verdicts
pub mod Parsers
pub mod Readings
pub mod LinesInWords
pub mod DecimalText
