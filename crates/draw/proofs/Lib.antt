pub mod Picks
pub mod Orders
pub mod Listed
