-- The laws behind the scan.
pub mod Pages
