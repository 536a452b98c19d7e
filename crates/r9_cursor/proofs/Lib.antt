mod Beside
mod Bytes
mod Shown
