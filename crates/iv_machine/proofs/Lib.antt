pub mod Firsts
pub mod Scans
pub mod Orders
pub mod Modes
pub mod Puts
pub mod OneChange
