pub mod Behind
pub mod BehindResult
pub mod Calls
pub mod ResultStatuses
pub mod Statuses
