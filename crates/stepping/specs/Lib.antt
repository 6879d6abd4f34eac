pub mod RowBytes
pub mod Stepping
