pub mod Accounts
pub mod Disagreements
pub mod Failures
pub mod Telling
pub mod Sessions
