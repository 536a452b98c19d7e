pub mod Colours
pub mod Spots
pub mod Pages
pub mod Painting
pub mod Strokes
pub mod Scrolls
pub mod Strings
pub mod Acting
