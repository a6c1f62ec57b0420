-- Laws of ballots, for the crates above, and the arithmetic below them.
pub mod Remainders
pub mod Laws
