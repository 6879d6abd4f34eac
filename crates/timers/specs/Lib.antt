pub mod Timers
pub mod Bank
pub mod Faults
pub mod Settings
