pub mod Restoring
pub mod Conditions
