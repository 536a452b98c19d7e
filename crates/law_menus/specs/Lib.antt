pub mod banded
pub mod inked
pub mod inking
pub mod menus
pub mod pens
