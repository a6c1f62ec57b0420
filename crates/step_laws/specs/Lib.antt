-- What the laws of a step are stated with.
-- the refusals that a step can get
pub mod Refusals
-- which kinds commit
pub mod Committing
