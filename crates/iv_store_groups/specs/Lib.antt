pub mod Linked
pub mod Groups
pub mod Laws
pub mod Lending
pub mod Closing
pub mod Held
