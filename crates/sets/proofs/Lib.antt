pub mod Masks
pub mod Unions
