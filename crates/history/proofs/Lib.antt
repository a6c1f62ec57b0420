-- Why the room follows the one-value machine: one slot, one step, the whole list; and that no call alters a limit.
pub mod Always
pub mod Firsts
pub mod SlotMoves
pub mod StepMoves
pub mod Answers
pub mod Choosers
pub mod Chooses
pub mod Moments
pub mod Opened
pub mod Runs
pub mod KeptLimits
