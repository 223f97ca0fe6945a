pub mod PlainRows
pub mod Suspects
