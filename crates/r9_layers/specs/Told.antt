-- What is told of an image.
pub use Rattle.r9_forest.specs.Told.{info_of}
