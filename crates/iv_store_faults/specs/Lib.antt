pub mod Types
pub mod Watch
pub mod Watching
pub mod Violating
