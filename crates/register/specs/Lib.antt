-- What is promised of whole runs: one history, and that a struck number is never used again.
pub mod OneHistory
pub mod NeverAgain
