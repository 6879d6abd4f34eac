pub mod Cells
pub mod Barred
pub mod Steps
pub mod Members
pub mod Loaded
pub mod Headed
