-- What the audit has to do with sound files.
pub mod Nones
pub mod Scan
pub mod Sorts
pub mod Twinned
pub mod Gathered
