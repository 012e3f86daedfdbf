-- The laws behind the journal's functions: one for each way out and each turn of a loop.
pub mod Written
pub mod Walked
pub mod Restored
pub mod Whole
