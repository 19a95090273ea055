pub mod Naming
mod Counting
mod Folding
mod Parting
pub mod Keeping
