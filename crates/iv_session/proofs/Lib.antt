pub mod AllRan
pub mod Sound
pub mod Few
pub mod Told
pub mod EachExecuted
