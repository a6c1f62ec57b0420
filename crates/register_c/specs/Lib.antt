-- The answers, each packed in one number, and the calls that C has beside the register's own.
pub mod Packing
pub mod Calls
