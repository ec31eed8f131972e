mod StepRow
mod EveryBall
pub mod Answers
pub mod AnswerInWords
