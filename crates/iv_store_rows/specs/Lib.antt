pub mod ByNumber
pub mod InSlots
pub mod Filing
pub mod Histories
