mod Loops
mod Names
mod Levels
mod Renewed
mod Results
mod Windows
