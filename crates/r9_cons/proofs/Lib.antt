mod LineLaws
mod Shortened
mod Ending
