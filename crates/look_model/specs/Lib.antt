pub mod Currencies
pub mod Looks
