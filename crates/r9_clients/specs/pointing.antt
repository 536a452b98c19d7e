pub mod Said
pub mod Record
