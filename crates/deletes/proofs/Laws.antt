-- The laws behind a deletion's functions: one for each way out and each turn of a loop.
pub mod Closing
pub mod Deletes
