-- Demand 3, proved; and what it says of numbers that were struck.
pub mod Theorem
pub mod Struck
