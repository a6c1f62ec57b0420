-- How an answer is one number for C.
pub mod Packing
