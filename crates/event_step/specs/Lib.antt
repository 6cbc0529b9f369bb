pub mod Step
pub mod Promises
pub mod Channel
pub mod Numbers
pub mod Host
