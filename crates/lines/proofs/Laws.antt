-- The laws behind the player's functions: each turn of a loop.
pub mod Formats
