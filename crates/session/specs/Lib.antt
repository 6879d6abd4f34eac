pub mod Numerals
pub mod Expected
pub mod Lines
