pub mod Standing
pub mod Likes
