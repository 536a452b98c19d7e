pub mod Bare
pub mod Canvases
pub mod Coming
pub mod Entering
pub mod Wanting
pub mod Windows
