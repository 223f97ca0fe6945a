pub mod Untriggered
mod InTurn
pub mod Whens
pub mod ChangesAt
pub mod Chained
pub mod Nets
pub mod Merges
pub mod FiringsByTable
pub mod NamedColumns
pub mod NoneFires
