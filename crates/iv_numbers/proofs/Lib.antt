pub mod PartsLemmas
pub mod RowsLemmas
pub mod RowsFound
pub mod RowsAbove
pub mod RowsHeld
pub mod RowsKept
pub mod RowsUndone
