-- Laws about digits and about the lines; 01's sample.
pub mod DigitLaws
pub mod LineLaws
pub mod Sample
