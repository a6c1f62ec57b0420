-- How a server's next ballot is one number for C.
pub mod Number
