pub mod Places
pub mod KeyHolders
pub mod Suspects
