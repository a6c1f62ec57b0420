-- The steps that an input holds, the text that rehearse prints for it, and what is read and written.
pub mod Script
pub mod Rehearsal
pub mod Buffer
pub mod Output
