pub mod Walks
pub mod Bars
pub mod Departing
