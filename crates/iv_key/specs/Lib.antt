pub mod Hashes
pub mod Keys
