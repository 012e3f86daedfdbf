-- What the calls that read have to do with the ledger.
pub mod Arrivals
pub mod Looks
pub mod Outputs
