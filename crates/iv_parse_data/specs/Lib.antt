pub mod Types
pub mod Series
pub mod Data
pub mod Tables
pub mod readers
