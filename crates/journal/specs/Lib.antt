pub mod Trace
pub mod Layers
pub mod Twice
pub mod LayersLemmas
pub mod Sessions
