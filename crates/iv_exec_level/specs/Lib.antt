pub mod Steps
pub mod Firing
pub mod Settled
