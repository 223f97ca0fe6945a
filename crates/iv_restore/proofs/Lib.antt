pub mod Decided
pub mod Read
pub mod Run
