mod Padded
mod Waits
mod Few
