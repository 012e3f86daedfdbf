-- The meaning, in the order of document 01's headings: what a public promise names, and a reader believes.
pub mod Numbers
pub mod Table
pub mod Rules
pub mod Pages
pub mod Answers
pub mod Currency
pub mod Calls
pub mod Promise
pub mod Player
pub mod Line
pub mod Interface
pub mod History
pub mod Examples
-- A request of document 02.
pub mod Journal
-- What stands between a file's bytes and its ledger: what the functions below the calls promise.
pub mod Bytes
pub mod Walks
pub mod Image
pub mod Audit
