pub mod Words
pub mod Reserved
pub mod Told
pub mod Tokens
pub mod Longest
pub mod IsTokens
