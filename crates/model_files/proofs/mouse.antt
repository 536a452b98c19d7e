mod QueueLaws
mod Rows
