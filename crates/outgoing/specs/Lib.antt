pub mod Message
pub mod Promises
