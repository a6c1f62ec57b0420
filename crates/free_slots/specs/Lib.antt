-- Ask and Put, and what is promised of them.
pub mod Ask
pub mod Put
pub mod AskThenPut
