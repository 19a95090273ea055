pub mod Gather
pub mod Loops
pub mod Bound
pub mod Unrolled
pub mod Questions
