pub mod Sections
pub mod Told
