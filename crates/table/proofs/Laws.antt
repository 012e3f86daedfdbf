-- The laws behind the table's functions: one for each way out and each turn of a loop.
pub mod Words
pub mod Sizes
pub mod Keys
