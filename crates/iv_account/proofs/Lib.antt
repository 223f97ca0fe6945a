pub mod Equals
pub mod KeyAsked
pub mod Telling
