-- The laws behind the public calls: one for each way out.
pub mod Refusals
pub mod Checks
pub mod Changes
pub mod Calls
