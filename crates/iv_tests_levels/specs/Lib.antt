pub mod Pairs
pub mod Statements
