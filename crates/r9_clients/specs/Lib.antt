pub mod deskfile
pub mod drawing
pub mod page
pub mod pointing
pub mod saying
pub mod textfile
pub mod typing
