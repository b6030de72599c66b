pub mod Joins
pub mod Hefts
pub mod Laws
