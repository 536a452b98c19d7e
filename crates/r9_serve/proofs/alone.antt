mod Runs
mod Replies
mod Taken
