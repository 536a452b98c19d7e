pub mod Page
pub mod Device
