pub mod Bounds
pub mod Clock
pub mod Kept
