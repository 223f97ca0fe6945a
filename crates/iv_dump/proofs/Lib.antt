pub mod Adding
pub mod LawsOfDumps
pub mod Made
pub mod Owned
pub mod Pushed
pub mod Told
pub mod WrittenChecks
