pub mod Declining
pub mod Laid
pub mod Tables
pub mod Serving
pub mod Growing
pub mod Staying
pub mod Caching
