pub mod Callees
pub mod Outcomes
pub mod Kept
