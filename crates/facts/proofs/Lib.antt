pub mod Tuples
pub mod Orders
pub mod Scans
pub mod Relations
