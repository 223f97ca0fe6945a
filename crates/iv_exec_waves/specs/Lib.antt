pub mod Applying
pub mod Progress
pub mod Running
pub mod Steps
