pub mod Kept
pub mod Layout
pub mod Held
pub mod Rows
pub mod Growth
pub mod Laws
