pub mod Saved
pub mod Promises
pub mod Numbers
