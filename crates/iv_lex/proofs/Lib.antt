pub mod Scanning
pub mod Longest
pub mod Front
pub mod Gaps
pub mod Sequence
pub mod Quotes
pub mod Characters
