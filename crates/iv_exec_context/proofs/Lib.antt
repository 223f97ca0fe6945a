pub mod Answers
pub mod Failing
pub mod Firsts
pub mod Untold
pub mod Copies
