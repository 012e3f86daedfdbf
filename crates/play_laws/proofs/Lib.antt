-- What frames, the C interface and the player's lines have to do with the ledger.
pub mod Decoded
pub mod Frames
pub mod Sixteens
pub mod Interface
pub mod Words
pub mod Called
pub mod Opened
pub mod Answered
pub mod Lines
pub mod Promises
