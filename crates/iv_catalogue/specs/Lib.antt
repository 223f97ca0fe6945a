pub mod Names
pub mod Catalogues
pub mod ConstraintPlaces
pub mod Refusals
