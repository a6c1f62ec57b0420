-- one check passed or failed, and all checks of a call taken apart
pub mod CheckLaws
-- the answer carries the first refusal that applies; where the numbers rise that is the lowest; a refused call changes nothing
pub mod LowestLaws
-- each refusal has its own number
pub mod NumberLaws
