pub mod Frames
pub mod Kept
pub mod Gathered
pub mod Follows
pub mod Assemblies
pub mod Segments
