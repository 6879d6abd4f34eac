pub mod Same
pub mod Standing
pub mod Formed
pub mod Told
