-- What the journal's functions compute.
pub mod Texts
pub mod Walks
pub mod Plans
