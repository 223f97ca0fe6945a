pub mod Types
pub mod Kept
pub mod Keys
pub mod Known
