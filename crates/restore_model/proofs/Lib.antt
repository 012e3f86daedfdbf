-- The journal's functions write what `writes` says, and recover what `recovery` says.
pub mod Sizes
pub mod Puts
pub mod Starts
pub mod Pairs
pub mod Lines
pub mod Steps
pub mod Walking
pub mod PutBack
pub mod Restores
pub mod Marked
pub mod Marks
pub mod PutsLine
pub mod Both
pub mod Dues
pub mod Kept
