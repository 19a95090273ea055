pub mod Facts
pub mod Twices
pub mod Apart
pub mod Stamps
