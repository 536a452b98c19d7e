mod Loops
mod Told
mod Numbers
mod Table
mod Asked
