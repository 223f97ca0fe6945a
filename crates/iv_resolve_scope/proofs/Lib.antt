pub mod Places
pub mod Variables
pub mod Steps
pub mod Firsts
pub mod Noted
pub mod FirstItems
