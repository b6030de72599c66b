pub mod Waits
pub mod Groups
pub mod News
pub mod Made
pub mod Calls
