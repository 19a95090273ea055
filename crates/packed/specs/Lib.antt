pub mod Format
pub mod Meaning
pub mod Journal
pub mod Growth
pub mod Batch
pub mod Coding
pub mod Digits
