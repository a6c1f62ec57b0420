-- The next step of a server on its own, and that following it commits within a bound.
-- the drives that it uses
pub mod Used
-- the next step
pub mod Next
-- what is promised of it
pub mod Given
-- following it
pub mod Follow
-- what is promised of that
pub mod Promise
