pub mod Order
pub mod Words
pub mod Records
pub mod Place
pub mod Putting
pub mod Orders
