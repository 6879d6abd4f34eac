-- The rows that a body is taken for.
pub use Rattle.set_file.specs.Shape.{Shape, shape, shape_of}
