pub mod Bounds
pub mod Means
pub mod Scores
pub mod Quotients
