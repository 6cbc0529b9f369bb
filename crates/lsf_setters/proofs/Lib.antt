pub mod Frames
pub mod Kept
