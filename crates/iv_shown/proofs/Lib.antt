pub mod CellsComputed
pub mod PlaceProofs
pub mod Placing
