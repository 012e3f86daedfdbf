-- The laws behind MODIFY's functions: one for each way out and each turn of a loop.
pub mod Modifying
