pub mod Files
pub mod Rules
pub mod Judging
pub mod Laws
pub mod Faults
pub mod Kinds
