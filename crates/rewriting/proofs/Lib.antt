pub mod Keeping
pub mod Padding
