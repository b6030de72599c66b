pub mod Bounds
pub mod Weights
pub mod Peers
pub mod Rosters
