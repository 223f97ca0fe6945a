pub mod Placements
pub mod Selections
pub mod Steps
