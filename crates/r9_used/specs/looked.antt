pub mod Firsts
pub mod Told
