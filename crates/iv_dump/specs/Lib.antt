pub mod Types
pub mod Scripts
pub mod Dumps
pub mod Making
pub mod Laws
pub mod DumpLaws
