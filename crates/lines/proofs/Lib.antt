pub mod AnswerNumbers
pub mod Digits
pub mod Ends
pub mod Keys
pub mod Readers
pub mod Yielded
