-- A deletion in a sound file: what is marked is the ledger's set, the currency after it is the ledger's, and the file is left as the ledger's layout.
pub mod Below
pub mod Marks
pub mod Marked
pub mod Entries
pub mod Closed
pub mod Chained
pub mod Chains
pub mod Homed
pub mod Calcs
pub mod Taken
pub mod Deletes
