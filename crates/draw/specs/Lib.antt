pub mod Words
pub mod Rows
pub mod Order
pub mod Fits
