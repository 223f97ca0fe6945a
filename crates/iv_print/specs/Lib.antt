pub mod AccountLines
pub mod WorkedAccounts
pub mod JsonAccounts
pub mod PendingLines
