pub mod Verdicts
pub mod Held
pub mod History
pub mod Led
pub mod Law
