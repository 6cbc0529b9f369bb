pub mod Heard
pub mod Promises
pub mod Collected
