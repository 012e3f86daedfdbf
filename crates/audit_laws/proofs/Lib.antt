-- What the audit finds, in the terms of images and ledgers.
pub mod Firsts
pub mod Marked
pub mod Walks
pub mod Sweeps
pub mod ChainWalks
pub mod Chains
pub mod ChainFaults
pub mod CalcWalks
pub mod Calcs
pub mod CalcFaults
pub mod Shown
pub mod Along
pub mod Orders
pub mod Twins
pub mod OrderPhase
pub mod Exact
