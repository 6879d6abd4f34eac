pub mod Bytes
pub mod Shorts
pub mod Made
pub mod Feeding
pub mod Moves
pub mod Fronts
pub mod Written
pub mod Typed
