pub mod Meaning
pub mod Leads
pub use Rattle.history.specs.Held
pub use Rattle.history.specs.Verdicts
