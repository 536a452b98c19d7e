pub mod cursor
pub mod desk
pub mod mirror
pub mod textwin
