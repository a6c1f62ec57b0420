-- The examples, computed, and what the theorem says of them; agreement, read off the theorem's statement.
pub mod Reading
pub mod Examples
pub mod Agreement
