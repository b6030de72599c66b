pub mod Fet
pub mod Ids
pub mod Tries
pub mod Laws
pub mod Fetches
pub mod Calls
pub mod Sends
