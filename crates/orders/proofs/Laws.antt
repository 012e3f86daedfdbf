-- The laws behind the order's functions: one for each way out and each turn of a loop.
pub mod Orders
