-- A frame's call in the ledger's words.
pub mod Calls
