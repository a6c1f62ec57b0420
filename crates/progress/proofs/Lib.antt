-- Laws of the next step, and why a server on its own gets through.
-- sums over drives, sizes of sets of servers; members of ranges and filtered lists
pub mod Sums
pub mod Members
-- the drives that are used
pub mod Drives
-- the first of what is left
pub mod Left
-- what the next step gives
pub mod NextLaws
-- the potential, when the rules accept, what is marked then, and that a ballot is left
pub mod Potential
pub mod Accepts
pub mod Marking
pub mod Ballots
-- what stays true, and each step by its phase: 0, 1 or 2, 1, 2
pub mod Good
pub mod Setting
pub mod Phase0
pub mod Rounds
pub mod Phase1
pub mod Phase2
-- a step on the cells, many steps, and the theorem
pub mod Cells
pub mod Enough
pub mod Theorem
