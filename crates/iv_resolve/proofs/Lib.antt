pub mod Named
pub mod Elements
pub mod Steps
