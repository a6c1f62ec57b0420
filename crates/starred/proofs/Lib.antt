-- The proof of the starred table, the law that turns it into each case, and some cases in plain words.
pub mod RunLaws
pub mod CaseLaws
pub mod Table
pub mod Values
