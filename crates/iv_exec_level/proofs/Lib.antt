pub mod Lending
pub mod Refusing
pub mod Turns
pub mod Levels
pub mod ToldTurns
pub mod ToldLevels
pub mod ToldConditions
