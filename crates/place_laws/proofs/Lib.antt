-- The models of reads and writes, in the terms of an image and of a ledger.
pub mod Image
pub mod Sound
pub mod Links
pub mod Pieces
pub mod With
pub mod Written
pub mod NewData
pub mod Room
pub mod Made
pub mod Moves
pub mod Fresh
