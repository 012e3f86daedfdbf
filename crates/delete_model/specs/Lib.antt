-- What a deletion computes on bytes: the set that goes, the currency after it, and the file without it.
pub mod Marks
pub mod Entries
pub mod Closing
pub mod Deletes
