mod Lengths
mod Short
mod Steps
mod Given
mod Recorded
