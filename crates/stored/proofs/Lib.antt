-- A sheet is read back from its text, and has no other; a passage in two parts is the whole; so the conversion keeps what it converts.
pub mod RoundTrip
pub mod OneText
pub mod Parts
pub mod Conversion
pub mod ComesOutInWords
pub mod LentInWords
pub mod Cases
