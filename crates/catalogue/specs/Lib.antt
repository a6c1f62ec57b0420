-- The catalogue: the rule for one cell, the fold over a server's outputs, and the call.
pub mod Entry
pub mod Fold
pub mod Outputs
pub mod Listing
pub mod Call
