-- What the models have to do with the ledger.
pub mod Counts
pub mod Fills
