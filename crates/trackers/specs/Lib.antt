pub mod Targets
pub mod Slips
pub mod Lives
pub mod Made
