pub mod Clock
pub mod Promises
