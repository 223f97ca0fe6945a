pub mod Truths
pub mod Values
pub mod References
pub mod Worked
