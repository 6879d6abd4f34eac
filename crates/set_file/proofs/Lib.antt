pub mod Seeking
pub mod Numbered
pub mod Written
pub mod Fronts
pub mod Stretches
pub mod Body
pub mod RoundTrip
