pub mod Lent
pub mod Refused
pub mod RowValues
pub mod Values
