pub mod Weighings
pub mod Wakings
