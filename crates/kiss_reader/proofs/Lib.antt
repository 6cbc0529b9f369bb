pub mod Settled
pub mod Indices
pub mod Frames
pub mod Split
pub mod Steps
pub mod Fronts
pub mod Kept
