pub mod Triggers
pub mod Statements
