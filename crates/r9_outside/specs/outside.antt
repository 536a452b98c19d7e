pub mod Count
pub mod Source
pub mod Sink
pub mod Failing
pub mod Door
pub mod Doors
