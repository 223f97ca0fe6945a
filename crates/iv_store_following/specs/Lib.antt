pub mod Types
pub mod KeyGroups
pub mod BorrowedChange
pub mod Steps
pub mod References
pub mod Turns
pub mod Following
pub mod Whole
