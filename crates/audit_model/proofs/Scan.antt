-- The pages phase: no fault exactly where the file is the image that its lookups show.
pub mod Numbers
pub mod Lines
pub mod Pages
pub mod Passes
pub mod Exact
pub mod One
