pub mod Wires
pub mod Meaning
pub mod File
pub mod Reading
pub mod Laws
