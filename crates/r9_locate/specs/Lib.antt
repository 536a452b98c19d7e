pub mod locate
pub mod numbered
pub mod watched
