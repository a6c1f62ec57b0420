-- Examples of demand 3: what an example says, nine runs worked out in full, and agreement in plain words; and the bound of a
-- server on its own, met.
pub mod Example
pub mod Runs
pub mod Agreement
pub mod Tight
