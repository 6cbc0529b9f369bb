pub mod Block
pub mod Promises
pub mod Spot
