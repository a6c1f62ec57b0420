-- Laws of scripts, texts and buffers; the sample; the list of commands behind the servers' lines.
pub mod ReadLaws
pub mod ScriptLaws
pub mod TextLaws
pub mod BufferLaws
pub mod Going
pub mod OpenedLaws
pub mod Sample
pub mod OneList
