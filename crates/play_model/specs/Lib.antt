-- What a frame of a call does.
pub mod Plays
