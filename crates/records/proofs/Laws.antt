-- The laws behind records put in and taken out: one for each way out and each turn of a loop.
pub mod Moves
