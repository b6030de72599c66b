pub mod Weights
pub mod Waiters
