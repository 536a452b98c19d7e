mod Done
mod Readings
mod Keys
