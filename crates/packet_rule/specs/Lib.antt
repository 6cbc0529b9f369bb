pub mod Left
pub mod Promises
pub mod Wrong
