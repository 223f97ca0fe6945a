pub mod ModeMaps
