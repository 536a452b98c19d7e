mod Counts
mod Made
