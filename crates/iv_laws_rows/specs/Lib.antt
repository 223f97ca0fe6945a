pub mod Types
pub mod RowFits
pub mod Changing
pub mod Laws
pub mod Starting
pub mod WellTyped
