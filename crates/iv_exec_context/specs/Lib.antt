pub mod Answering
pub mod Triggered
pub mod Sides
