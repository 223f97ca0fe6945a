pub mod Seen
pub mod FirstColumns
pub mod FirstItems
