pub mod Modulator
pub mod Promises
