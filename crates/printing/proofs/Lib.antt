-- Laws of the hoard list: that it has the entered pieces and rises, that the code's keys make it, and what the call answers.
mod Counts
mod KeyLaws
mod OrderLaws
mod PlaceLaws
pub mod AnswerLaws
pub mod PromiseLaws
