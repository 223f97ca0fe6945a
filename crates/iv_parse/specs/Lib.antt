pub mod Types
pub mod Triggers
pub mod Statements
pub mod Script
pub mod Laws
pub mod readers
