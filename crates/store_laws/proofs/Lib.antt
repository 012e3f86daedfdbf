-- What the calls' models have to do with the ledger.
pub mod Force
pub mod Checked
pub mod Looked
pub mod Formatted
pub mod Changed
pub mod Promises
