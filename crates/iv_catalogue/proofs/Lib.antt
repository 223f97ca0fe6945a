pub mod WrittenNames
pub mod NamedLists
pub mod KeptNames
pub mod Placing
pub mod TriggerNumbers
pub mod Keeping
