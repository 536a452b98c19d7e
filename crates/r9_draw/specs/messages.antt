pub mod Fonts
pub mod Strings
pub mod Plans
pub mod Costs
pub mod Restacking
