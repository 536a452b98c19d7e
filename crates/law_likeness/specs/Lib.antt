pub mod agreement
pub mod likeness
pub mod making
pub mod renamed
pub mod whole
