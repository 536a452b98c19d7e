pub mod Standing
pub mod Renewing
pub mod Holding
pub mod Replacing
pub mod Coming
