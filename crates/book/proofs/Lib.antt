pub mod Words
pub mod Bisection
pub mod Inserted
pub mod Places
pub mod Puts
