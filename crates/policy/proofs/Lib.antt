pub mod Walked
pub mod Parents
pub mod Verdicts
