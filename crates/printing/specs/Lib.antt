-- Text in a lent buffer, and bounds on its length.
pub mod Pieces
pub mod AnswerLength
pub mod SheetLength
