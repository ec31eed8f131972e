-- One step: its table of coefficients, its degree, what was asked before it; without terms; back beside forward.
pub mod Tables
pub mod Degree
pub mod StepTaken
pub mod NoTerms
pub mod SignOfPowers
pub mod EitherWay
