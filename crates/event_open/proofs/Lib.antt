pub mod Opens
pub mod Runs
