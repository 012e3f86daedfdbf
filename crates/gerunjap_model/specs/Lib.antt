-- What the C interface does to lent memory.
pub mod Lent
