-- The values that are to be proved (SPEC, "Edge values"): runs of steps, the kinds of cases, and the table.
pub mod Runs
pub mod Cases
pub mod Starred
