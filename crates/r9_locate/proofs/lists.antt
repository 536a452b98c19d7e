mod Along
mod Groups
mod Ordered
