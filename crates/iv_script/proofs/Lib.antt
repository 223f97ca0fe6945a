pub mod Reading
pub mod Runs
pub mod Scripts
pub mod Worked
pub mod PlaceLemmas
pub mod Merged
