-- Lemmas that several crates cite.
pub mod Tests
