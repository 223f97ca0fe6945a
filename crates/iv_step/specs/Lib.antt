pub mod Step
pub mod Sure
pub mod Laws
pub mod Refusals
pub mod Worked
pub mod Telling
pub mod Pending
