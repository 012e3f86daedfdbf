-- The laws behind the functions on frames and text: one for each way out and each turn of a loop.
pub mod Lines
pub mod Prints
