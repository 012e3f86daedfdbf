-- The laws behind STORE's functions: one for each way out and each turn of a loop.
pub mod Details
pub mod Placing
pub mod Storing
