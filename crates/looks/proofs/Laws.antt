-- The laws behind the currency and the calls that read: one for each way out and each turn of a loop.
pub mod Calls
pub mod Currency
