-- What the player's functions compute.
pub mod Formats
pub mod Lines
pub mod Feeds
