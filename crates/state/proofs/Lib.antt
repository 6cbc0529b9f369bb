pub mod Bounds
pub mod Kept
