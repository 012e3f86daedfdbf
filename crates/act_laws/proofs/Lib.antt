-- What STORE, RELINK and MODIFY have to do with the ledger.
pub mod Refusals
pub mod Places
pub mod Entered
pub mod Beside
pub mod Linked
pub mod Stores
pub mod StoreTurns
pub mod Moved
pub mod Rejoined
pub mod Relinks
pub mod ModifiedLedger
pub mod ChainsModified
pub mod CalcLinked
pub mod CalcMoved
pub mod Modifies
