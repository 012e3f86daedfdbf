-- The laws behind the functions: one for each way out and each turn of a loop.
pub mod Planned
