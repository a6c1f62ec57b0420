-- Laws of the whole step, for every row: what it refuses, what one that fits answers, which kind commits, that it keeps a room
-- in range, what it leaves alone, and that only a drive step changes the off marks.
pub mod Slots
pub mod StepKeeps
pub mod Heads
pub mod SlotTie
pub mod Lowest
pub mod Commits
pub mod Frame
pub mod OffMarks
pub mod ByRule
