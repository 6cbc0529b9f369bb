pub mod Tnc
pub mod Promises
