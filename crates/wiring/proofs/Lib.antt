pub mod Orders
pub mod Apart
pub mod Kept
pub mod Laid
pub mod Accepted
pub mod Refused
pub mod Lone
