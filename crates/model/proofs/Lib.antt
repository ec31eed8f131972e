-- The theorems of the worked cases, by computation; what two claims say, in words; outcomes that are equal; the refusals' numbers.
pub mod Definitions
pub mod Cases
pub mod GivesInWords
pub mod Outcomes
pub mod RefusalNumbers
