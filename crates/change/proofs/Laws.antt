-- The laws behind copies and links: one for each way out and each turn of a loop.
pub mod Copies
pub mod Links
