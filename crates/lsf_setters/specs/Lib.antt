pub mod Lsf
pub mod Promises
