-- Marks in a cell, sets of drives, and which sets count as a majority.
pub mod Marks
pub mod Sets
