pub mod Parts
pub mod Holding
pub mod Leaving
pub mod Walking
