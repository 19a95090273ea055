pub mod Arguments
pub mod Formula
pub mod Form
pub mod Formed
