-- Text put piece after piece; a number and its line; how long the texts are.
pub mod Pieces
pub mod TextsInOrder
pub mod Lines
-- a number in decimal, and its line
pub mod Decimal
pub mod LineLength
-- an answer, and a sheet
pub mod AnswerLength
pub mod SheetLength
