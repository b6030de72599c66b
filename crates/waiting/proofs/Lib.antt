pub mod Steps
pub mod Splits
pub mod Laws
