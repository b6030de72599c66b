pub mod Stages
pub mod Queues
pub mod Requests
pub mod Keys
