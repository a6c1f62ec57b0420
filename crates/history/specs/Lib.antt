-- A run of calls, what its answers tell, and the one-value machine that it is compared with.
pub mod Calls
pub mod Run
pub mod Machine
pub mod Choosing
