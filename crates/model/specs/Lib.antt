-- What each function on pages computes on bytes.
pub mod Reads
pub mod Keys
pub mod Room
pub mod Writes
pub mod Moves
