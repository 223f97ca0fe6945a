pub mod OneMark
pub mod TakenBack
pub mod Watched
