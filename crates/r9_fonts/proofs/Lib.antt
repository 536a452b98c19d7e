mod Kept
mod Strings
