pub mod Messages
pub mod Cases
pub mod Kept
