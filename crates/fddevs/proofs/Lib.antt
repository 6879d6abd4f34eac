pub mod Cells
pub mod Steps
pub mod Delays
pub mod Vetting
pub mod Ranges
pub mod Items
pub mod Queries
pub mod Cases
