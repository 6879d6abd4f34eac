-- What is read of the first n rows of a body.
pub use Rattle.set_file.specs.Rows.{loaded, climbs_at}
