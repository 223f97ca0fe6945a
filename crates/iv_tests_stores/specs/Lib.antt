pub mod Known
pub mod Types
