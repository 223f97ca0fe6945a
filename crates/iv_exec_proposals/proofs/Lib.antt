pub mod Along
pub mod Collecting
pub mod FoundRows
pub mod Numbered
pub mod Placing
pub mod SelectedRows
pub mod Steps
pub mod LeftOut
mod Turning
