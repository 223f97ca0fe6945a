pub mod Stores
pub mod Lookups
