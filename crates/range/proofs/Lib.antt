-- Laws of the range rule, for the crates above.
pub mod MaskTable
pub mod Laws
pub mod RecordLaws
pub mod Together
pub mod Chunks
pub mod Slots
