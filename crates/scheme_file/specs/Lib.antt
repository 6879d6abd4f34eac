pub mod File
pub mod Vetting
pub mod Faults
pub mod Bank
pub mod Sound
pub mod Heads
