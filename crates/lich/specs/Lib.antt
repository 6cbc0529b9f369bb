pub mod Lich
pub mod Promises
