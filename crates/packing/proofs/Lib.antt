-- Laws about the packing.
pub mod Halves
