-- A whole passage: its rows in a lent buffer, how many there are, what is under way, what is never read; step by step; along the opposite rates.
pub mod RowPlaces
pub mod RowRead
pub mod Padded
pub mod LaidOut
pub mod RowsOfPassage
pub mod UnderWay
pub mod PastCounts
pub mod SingleSteps
pub mod OppositeRates
