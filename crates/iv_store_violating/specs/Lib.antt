pub mod Shown
pub mod Flagging
pub mod Answers
pub mod Apart
