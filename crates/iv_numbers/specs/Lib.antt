pub mod Rows
pub mod GapLayout
pub mod Search
pub mod Kept
pub mod Closing
