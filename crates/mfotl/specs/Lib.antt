pub mod Truth
pub mod Laws
pub mod Examples
