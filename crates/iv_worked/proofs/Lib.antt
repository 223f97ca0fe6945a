pub mod Worked
pub mod Computed
