-- What the public calls compute on bytes.
pub mod Checks
pub mod Changes
pub mod Calls
