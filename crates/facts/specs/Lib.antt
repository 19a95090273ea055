pub mod Tuples
pub mod Facts
pub mod Scan
pub mod Calculated
pub mod Tried
