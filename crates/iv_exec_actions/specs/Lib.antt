pub mod AffectedForeignKey
pub mod ByTable
pub mod Following
pub mod Finding
pub mod Answers
pub mod RowActions
