-- The player's buffers.
pub mod Buffers
