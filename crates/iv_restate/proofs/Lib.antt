pub mod Steps
pub mod Unbound
pub mod Forms
pub mod WrittenTables
pub mod CreatedTables
pub mod LiteralValues
