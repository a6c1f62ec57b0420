-- Laws of ask and put, for the crates above.
pub mod AskLaws
pub mod PutLaws
