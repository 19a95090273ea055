pub mod Bytes
pub mod Canon
pub mod Finding
pub mod Steps
