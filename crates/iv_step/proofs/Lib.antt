pub mod Occasions
pub mod Reached
pub mod Refused
pub mod WorkedScripts
pub mod Asked
pub mod Differences
pub mod ScansRise
