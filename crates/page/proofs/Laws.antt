-- The laws behind the functions on pages: one for each way out and each turn of a loop.
pub mod Bytes
pub mod Fields
pub mod Lookup
pub mod Room
pub mod Writes
