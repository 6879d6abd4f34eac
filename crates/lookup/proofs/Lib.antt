pub mod Once
pub mod Rising
pub mod Search
pub mod Stretches
