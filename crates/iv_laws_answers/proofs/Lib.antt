mod CheckTypes
mod FittingStates
mod Outcomes
mod QueryTypes
mod ShapeRefusals
mod Spared
mod SparedAnswers
mod SparedLevels
mod SparedTriggers
mod SparedValues
mod NoViolations
mod Telling
mod FailuresFound
mod FailuresOfStatements
mod RefusalsTold
pub mod Names
pub mod Parts
pub mod Terms
pub mod Data
pub mod Tables
pub mod Triggers
pub mod Statements
