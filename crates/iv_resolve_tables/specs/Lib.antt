pub mod Seen
pub mod Unread
pub mod Keys
pub mod KeySets
pub mod OwnKeys
pub mod Pairs
