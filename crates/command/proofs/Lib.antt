-- Laws of commands, for the crates above.
pub mod Laws
pub mod TopLaws
