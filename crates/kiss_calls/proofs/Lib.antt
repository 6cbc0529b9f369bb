pub mod Inner
pub mod Cases
pub mod Boxes
pub mod Runs
pub mod Kept
