-- What each function of the audit computes on bytes.
pub mod Scan
pub mod Marks
pub mod Chains
pub mod Calcs
pub mod Orders
pub mod Sorting
pub mod Twins
pub mod Faults
