-- Laws of marks and of majorities, for the crates above.

-- what stands in a cell after a mark is set or removed
pub mod MarkLaws
-- what holds of every number below n, as a loop finds it
pub mod AllBelow
-- how many drives a set has: the count of ones
pub mod Sizes
-- any two majorities share a drive
pub mod Share
-- a set with every drive of a majority
pub mod Larger
-- what a majority looks at
pub mod Majorities
-- the cell that a set is gathered in
pub mod Gathered
-- one `or` judges a whole cell
pub mod MaskLaws
-- what the machine computes for `1 << i`
pub mod Shift
