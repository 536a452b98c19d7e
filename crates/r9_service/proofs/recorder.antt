mod Putting
mod Whole
mod Grown
