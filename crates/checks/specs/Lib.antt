-- The checks of a call, and the refusals that they can bring.
pub mod Checks
pub mod Refusals
-- the lowest refusal that applies is given, and a refused call changes nothing
pub mod Lowest
