pub mod OrIdle
pub mod Pair
pub mod Half
pub mod Limits
