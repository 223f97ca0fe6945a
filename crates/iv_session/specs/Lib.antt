pub mod Types
pub mod FewLookups
pub mod Executed
pub mod RunningAll
