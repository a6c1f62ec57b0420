-- When the cells of a row are in range.
pub mod Range
