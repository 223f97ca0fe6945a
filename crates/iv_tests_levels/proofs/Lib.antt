pub mod Pairs
pub mod Suiting
