-- Laws of the next step.
pub mod Firsts
pub mod UsedLaws
pub mod Judged
