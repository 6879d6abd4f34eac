pub mod Bars
pub mod Meaning
pub mod Vetting
pub mod Rules
