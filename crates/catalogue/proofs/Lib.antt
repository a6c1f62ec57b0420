-- Laws of the catalogue, for the crates above: the fold, struck pieces, the outputs taken, the loop over
-- the slots, the call's checks, its answers.
pub mod FoldLaws
pub mod StruckLaws
pub mod OutputLaws
pub mod ListLaws
pub mod CallLaws
pub mod AnswerLaws
