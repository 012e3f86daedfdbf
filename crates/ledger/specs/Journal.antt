-- The meaning of document 02 a, "A journal for power loss": what a call writes and what of it reaches the disk; recovery; what it is for; and what
-- the journal's functions promise.
pub mod Writes
pub mod Recovery
pub mod Order
pub mod Survival
pub mod Dues
pub mod Fresh
pub mod Promises
pub mod Examples
