pub mod Elements
pub mod KeysOfTable
pub mod Counts
pub mod SameSets
pub mod Altering
pub mod ReferencePairs
