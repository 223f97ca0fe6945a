pub mod Concluded
pub mod Executed
pub mod Flags
pub mod Joined
pub mod Numbers
pub mod Passed
pub mod Simple
mod Stops
pub mod Told
pub mod Unwriting
pub mod Within
