pub mod Follow
pub mod Laws
