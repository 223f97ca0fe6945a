pub mod Listed
pub mod Recording
pub mod Merging
pub mod ByTable
pub mod Distinct
pub mod Laws
pub mod MayFire
