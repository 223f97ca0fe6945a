pub mod Steps
pub mod RefusalsTold
pub mod InPlace
pub mod ColumnText
pub mod TriggerFound
