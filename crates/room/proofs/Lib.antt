-- Laws of open and step, for the crates above.
pub mod OpenLaws
pub mod Checks
pub mod ReadyLaws
-- a step on a row is the step on the room that the row is
pub mod Answering
pub mod Effects
pub mod Bridge
