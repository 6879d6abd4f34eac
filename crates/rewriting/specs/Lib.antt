pub mod Records
pub mod Again
