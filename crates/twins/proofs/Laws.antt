-- The laws behind sorting and finding twins: one for each way out and each turn of a loop.
pub mod Sorting
pub mod Twins
