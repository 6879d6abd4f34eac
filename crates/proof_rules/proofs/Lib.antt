pub mod Sound
pub mod Tested
pub mod Codec
pub mod Walks
pub mod Sets
pub mod Judged
pub mod Told
pub mod Refused
