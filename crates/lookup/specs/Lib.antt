pub mod Shape
pub mod Reading
pub mod Finding
pub mod Searching
