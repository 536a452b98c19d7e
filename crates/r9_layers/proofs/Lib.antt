mod Areas
mod Blocks
mod Carrying
mod Composed
mod Drawings
mod Moved
mod Rows
