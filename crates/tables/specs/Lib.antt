pub mod Rows
pub mod Appends
pub mod Lists
pub mod Scans
pub mod Sweeps
pub mod Only
pub mod Errors
pub mod Tables
