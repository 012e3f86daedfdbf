-- The laws behind the walks of rings: one for each way out and each turn of a loop.
pub mod Marks
pub mod Faults
