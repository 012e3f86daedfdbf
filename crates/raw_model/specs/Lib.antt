-- Calls on lent memory without refusals 1 to 4, and these refusals alone.
pub mod Raws
