-- Why a step encloses every exact sum, in the order of the argument.
-- the exact sum: its orders, that it is the paper's, and that only the numbers of a state matter
pub mod Orders
pub mod Binomial
pub mod Convolution
pub mod Paper
pub mod Denominators
pub mod ExactStates
-- the majorant and the tail; the coefficients; one step
pub mod Majorant
pub mod Tail
pub mod NextCoefficient
pub mod Coefficients
pub mod Enclosed
pub mod GatheredRates
-- demand 3, and rows that are not trusted
pub mod Trusted
pub mod Distrust
-- the water between the rows, and lows and highs that do not hold it
pub mod SpannedStep
pub mod Spanned
pub mod DistrustBetween
-- the range of a row's numbers
pub mod RowBounds
pub mod EndsBetween
pub mod RowRange
-- what a run leaves in a lent buffer, and what the claims say of it, down to plain numbers
pub mod PromisedRows
pub mod ClaimsInWords
