pub mod Shows
pub mod WatchTables
pub mod WatchAppended
pub mod Taking
pub mod Taken
pub mod Rooming
pub mod Filled
