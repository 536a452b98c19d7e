pub mod Replayed
pub mod Log
pub mod Replays
