-- Text as bytes, and the lines that rehearse prints.
pub mod Text
pub mod Lines
