pub mod Layout
pub mod Reading
pub mod Head
pub mod Rows
pub mod Shape
pub mod Held
pub mod Writing
