pub mod Masks
pub mod Collected
pub mod Assembled
pub mod Kept
