-- What is proved of the rule of first water, and of its claim.
pub mod Cases
-- the questions, and the sums that weigh a row
pub mod InRange
pub mod SumsFit
pub mod Weighing
-- the search
pub mod FirstRun
pub mod Streaks
-- what a certain row says, and what one that is not certain leaves open
pub mod RowsClear
pub mod Uncertain
pub mod CertainAtEnd
-- the claim: that it holds, and that it says no less than its words
pub mod WholeClaim
pub mod ClearSpans
pub mod AnswerInWords
pub mod ClaimInWords
pub mod PassageRows
