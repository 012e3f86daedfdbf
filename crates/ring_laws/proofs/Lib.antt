-- Walks round the rings of a sound file are the ledger's, and those of one chain where that chain alone is as the ledger says.
pub mod Homes
pub mod Rounds
pub mod Shown
pub mod Masters
pub mod Before
pub mod Found
pub mod Between
