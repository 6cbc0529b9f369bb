pub mod Messages
pub mod Kept
