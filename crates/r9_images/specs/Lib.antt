pub mod images
pub mod uses
