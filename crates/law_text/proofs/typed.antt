pub mod Typing
pub mod Making
pub mod Made
pub mod Asked
pub mod Opening
pub mod Texts
pub mod Shown
