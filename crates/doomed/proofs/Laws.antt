-- The laws behind a deletion's set: one for each way out and each turn of a loop.
pub mod Marks
pub mod Entries
pub mod Arrays
